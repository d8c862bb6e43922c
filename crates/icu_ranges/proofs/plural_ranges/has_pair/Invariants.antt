use Rattle.std.proofs.Common.{◌≡◌, drop}
use Rattle.icu_ranges.specs.PluralRanges.{has_pair}
use Rattle.icu_ranges.proofs.plural_ranges.has_pair.Given as goal

abbrev pub invariant-loop-range : goal.invariant-loop-range
invariant-loop-range l = has_pair (drop l.range-index l.ranges) l.start l.end ≡ has_pair l.ranges l.start l.end
