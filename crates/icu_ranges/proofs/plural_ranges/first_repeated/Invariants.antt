use Rattle.std.proofs.Common.{◌≡◌, drop}
use Rattle.icu_ranges.specs.PluralRanges.{first_repeated}
use Rattle.icu_ranges.proofs.plural_ranges.first_repeated.Given as goal

-- the entries that are left decide
abbrev pub invariant-loop-index : goal.invariant-loop-index
invariant-loop-index l = first_repeated l.index (drop l.index l.ranges) ≡ first_repeated 0 l.ranges
