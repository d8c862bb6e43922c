use Rattle.std.proofs.Common.{◌≡◌, ◌-◌, ◌≤◌, ◌++◌, take, replicate}
use Rattle.fixed_decimal.proofs.digits.without_nines.Given as goal

abbrev pub invariant-loop-left : goal.invariant-loop-left
invariant-loop-left l = (l.left ≤ l.kept) × (take l.kept l.digits ≡ take l.left l.digits ++ replicate (l.kept - l.left) 9)

abbrev pub decreases-loop-left : goal.decreases-loop-left
decreases-loop-left l = l.left
