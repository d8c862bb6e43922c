use Rattle.std.proofs.Common.{◌≡◌, ◌++◌, drop}
use Rattle.fixed_decimal.specs.Text.{digits_text}
use Rattle.icu_dimension.proofs.hundredfold.push_digits.Given as goal

-- with the digits that are left the text is whole
abbrev pub invariant-loop-digit : goal.invariant-loop-digit
invariant-loop-digit l = l.text.items ++ digits_text (drop l.digit-index l.digits) ≡ l.fn.text.items ++ digits_text l.digits
