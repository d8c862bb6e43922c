use Rattle.std.proofs.Common.{◌≡◌, drop}
use Rattle.icu_ranges.specs.PluralRanges.{resolved}
use Rattle.icu_ranges.proofs.plural_ranges.resolved.Given as goal

abbrev pub invariant-loop-range : goal.invariant-loop-range
invariant-loop-range l = resolved (drop l.range-index l.ranges) l.start l.end ≡ resolved l.ranges l.start l.end
