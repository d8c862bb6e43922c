use Rattle.std.proofs.Common.{◌≡◌, ◌++◌, take}
use Rattle.fixed_decimal.specs.Text.{digits_text}
use Rattle.icu_decimal_reading.proofs.number.push_digits.Given as goal

-- the digits so far are written
abbrev pub invariant-loop-digit : goal.invariant-loop-digit
invariant-loop-digit l = l.bytes.items ≡ l.initial.bytes.items ++ digits_text (take l.digit-index l.digits)
