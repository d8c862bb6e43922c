use Rattle.std.proofs.Common.{◌≡◌, ◌-◌, ◌≤◌, ◌++◌, length, replicate, drop}
use Rattle.icu_ranges.proofs.order.significant.Given as goal

abbrev pub invariant-loop-first : goal.invariant-loop-first
invariant-loop-first l = record {
  within : l.first ≤ length l.digits;
  zeros : l.digits ≡ replicate l.first 0 ++ drop l.first l.digits;
}

abbrev pub decreases-loop-first : goal.decreases-loop-first
decreases-loop-first l = length l.digits - l.first
