use Rattle.std.specs.Str.Iter.{chars_rest}
use Rattle.std.specs.String.{string_bytes}
use Rattle.icu_ranges_readable.proofs.AmountFronts.{Goes}
use Rattle.icu_ranges_readable.proofs.characters.text_until.Given as goal

-- what is found in front goes on with what is found in the rest
abbrev pub invariant-loop-found : goal.invariant-loop-found
invariant-loop-found l =
    (goal.iterator-loop-found).can_next l.found-iterator × (goal.iterator-loop-found).is_finite l.found-iterator
    × Goes l.character l.text (chars_rest l.found-iterator) (string_bytes l.front)
