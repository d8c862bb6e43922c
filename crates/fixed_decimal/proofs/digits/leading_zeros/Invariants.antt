use Rattle.std.proofs.Common.{◌≡◌, ◌-◌, ◌≤◌, ◌++◌, length, drop, replicate}
use Rattle.fixed_decimal.proofs.digits.leading_zeros.Given as goal

abbrev pub invariant-loop-first : goal.invariant-loop-first
invariant-loop-first l = (l.first ≤ length l.digits) × (l.digits ≡ replicate l.first 0 ++ drop l.first l.digits)

abbrev pub decreases-loop-first : goal.decreases-loop-first
decreases-loop-first l = length l.initial.digits - l.first
