use Rattle.std.proofs.Common.{◌≡◌, ◌++◌, take}
use Rattle.fixed_decimal.specs.Text.{digits_text}
use Rattle.talmuiga_c.proofs.plain_digits.push_digits.Given as goal

-- the digits so far are appended
abbrev pub invariant-loop-digit : goal.invariant-loop-digit
invariant-loop-digit l = l.text.items ≡ l.initial.text.items ++ digits_text (take l.digit-index l.digits)
