use Rattle.std.specs.Str.Iter.{char_indices_rest, char_indices_offset}
use Rattle.icu_dimension_data.proofs.Left.{Left}
use Rattle.icu_dimension_data.proofs.reading.read.Given as goal

-- what is left completes the draft to the pattern of the text
abbrev pub invariant-loop-at : goal.invariant-loop-at
invariant-loop-at l =
    (goal.iterator-loop-at).can_next l.at-iterator × (goal.iterator-loop-at).is_finite l.at-iterator
    × Left l.text (char_indices_rest l.at-iterator) (char_indices_offset l.at-iterator) l.state l.draft
