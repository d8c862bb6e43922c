use Rattle.std.proofs.Common.{◌≡◌, ◌++◌, take}
use Rattle.fixed_decimal.specs.Text.{digits_text}
use Rattle.scaled_units.proofs.spelling.push_digits.Given as goal

abbrev pub invariant-loop-digit : goal.invariant-loop-digit
invariant-loop-digit l = (l.text.items ≡ l.initial.text.items ++ digits_text (take l.digit-index l.digits)) × (l.text.capacity ≡ l.initial.text.capacity)
