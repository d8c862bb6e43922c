use Rattle.std.specs.Str.Iter.{char_indices_rest, char_indices_offset}
use Rattle.icu_dimension_data.proofs.Left.{Looks}
use Rattle.icu_dimension_data.proofs.reading.first_fault.Given as goal

-- what is left has the fault of the text
abbrev pub invariant-loop-at : goal.invariant-loop-at
invariant-loop-at l =
    (goal.iterator-loop-at).can_next l.at-iterator × (goal.iterator-loop-at).is_finite l.at-iterator
    × Looks l.text (char_indices_rest l.at-iterator) (char_indices_offset l.at-iterator) l.state
