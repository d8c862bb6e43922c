use Rattle.std.specs.Str.Iter.{chars_rest}
use Rattle.icu_decimal_reading.proofs.Rests.{AreAlike}
use Rattle.icu_decimal_reading.proofs.alike.bytes_alike.Given as goal

-- what is counted and what is alike of the rests are what is alike of the texts
abbrev pub invariant-loop-character : goal.invariant-loop-character
invariant-loop-character l =
    (goal.iterator-loop-character).can_next l.character-iterator × (goal.iterator-loop-character).is_finite l.character-iterator
    × AreAlike l.one l.other (chars_rest l.character-iterator) (chars_rest l.others) l.byte
