use Rattle.std.proofs.Common.{◌≡◌, drop}
use Rattle.icu_decimal_reading.specs.Reading.{value_from}
use Rattle.icu_decimal_reading.proofs.digits.value_of.Given as goal

-- what is left has the answer
abbrev pub invariant-loop-digit : goal.invariant-loop-digit
invariant-loop-digit l =
    (l.value ≡ l.digit-index) × (value_from l.digit-index (drop l.digit-index l.digits) l.character ≡ value_from 0 l.digits l.character)
