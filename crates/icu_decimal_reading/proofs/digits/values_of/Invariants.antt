use Rattle.std.specs.Str.Iter.{chars_rest}
use Rattle.icu_decimal_reading.proofs.Rests.{AreFound}
use Rattle.icu_decimal_reading.proofs.digits.values_of.Given as goal

-- the values so far go on with those of the rest
abbrev pub invariant-loop-character : goal.invariant-loop-character
invariant-loop-character l =
    (goal.iterator-loop-character).can_next l.character-iterator × (goal.iterator-loop-character).is_finite l.character-iterator
    × AreFound l.digits l.text (chars_rest l.character-iterator) l.values.items
