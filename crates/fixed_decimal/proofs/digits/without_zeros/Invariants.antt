use Rattle.std.proofs.Common.{◌≡◌, ◌-◌, ◌≤◌, ◌++◌, length, take, replicate}
use Rattle.fixed_decimal.proofs.digits.without_zeros.Given as goal

abbrev pub invariant-loop-left : goal.invariant-loop-left
invariant-loop-left l = (l.least ≤ l.left) × (l.left ≤ length l.digits) × (l.digits ≡ take l.left l.digits ++ replicate (length l.digits - l.left) 0)

abbrev pub decreases-loop-left : goal.decreases-loop-left
decreases-loop-left l = l.left
