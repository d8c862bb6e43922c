use Rattle.std.proofs.Common.{◌≡◌, ◌-◌, ◌≤◌, ◌++◌, drop, replicate}
use Rattle.scaled_units.proofs.digits.zeros_in_front.Given as goal

abbrev pub invariant-loop-first : goal.invariant-loop-first
invariant-loop-first l = (l.first ≤ l.most) × (l.digits ≡ replicate l.first 0 ++ drop l.first l.digits)

abbrev pub decreases-loop-first : goal.decreases-loop-first
decreases-loop-first l = l.most - l.first
