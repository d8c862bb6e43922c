use Rattle.std.specs.Str.Iter.{chars_rest}
use Rattle.icu_ranges_readable.specs.Characters.{has_mark}
use Rattle.icu_ranges_readable.proofs.CharacterSteps.{Goes}
use Rattle.icu_ranges_readable.proofs.characters.has_mark.Given as goal

-- the rest has a mark where the whole has one
abbrev pub invariant-loop-character : goal.invariant-loop-character
invariant-loop-character l =
    (goal.iterator-loop-character).can_next l.character-iterator × (goal.iterator-loop-character).is_finite l.character-iterator
    × Goes (has_mark l.symbols.strings) l.text (chars_rest l.character-iterator)
