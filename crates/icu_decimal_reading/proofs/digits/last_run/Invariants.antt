use Rattle.std.specs.Str.Iter.{chars_rest}
use Rattle.icu_decimal_reading.proofs.Rests.{IsCounted}
use Rattle.icu_decimal_reading.proofs.digits.last_run.Given as goal

-- the last run goes on in the rest
abbrev pub invariant-loop-character : goal.invariant-loop-character
invariant-loop-character l =
    (goal.iterator-loop-character).can_next l.character-iterator × (goal.iterator-loop-character).is_finite l.character-iterator
    × IsCounted l.digits l.text (chars_rest l.character-iterator) l.run
