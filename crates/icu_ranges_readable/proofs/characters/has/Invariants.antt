use Rattle.std.specs.Str.Iter.{chars_rest}
use Rattle.icu_ranges_readable.specs.Characters.{has}
use Rattle.icu_ranges_readable.proofs.CharacterSteps.{Goes}
use Rattle.icu_ranges_readable.proofs.characters.has.Given as goal

-- the rest has the character where the whole has it
abbrev pub invariant-loop-found : goal.invariant-loop-found
invariant-loop-found l =
    (goal.iterator-loop-found).can_next l.found-iterator × (goal.iterator-loop-found).is_finite l.found-iterator
    × Goes (has l.character) l.text (chars_rest l.found-iterator)
