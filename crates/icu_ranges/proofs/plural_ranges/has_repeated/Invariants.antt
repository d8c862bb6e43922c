use Rattle.std.proofs.Common.{◌≡◌, drop}
use Rattle.icu_ranges.specs.PluralRanges.{has_repeated}
use Rattle.icu_ranges.proofs.plural_ranges.has_repeated.Given as goal

abbrev pub invariant-loop-index : goal.invariant-loop-index
invariant-loop-index l = has_repeated (drop l.index l.ranges) ≡ has_repeated l.ranges
