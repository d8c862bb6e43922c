use Rattle.std.proofs.Common.{◌≡◌, ◌≤◌, length}
use Rattle.fixed_decimal.proofs.NumberDigits.{IsSplit}
use Rattle.fixed_decimal.proofs.unsigned.UnsignedDecimal.from_u64.Given as goal

abbrev pub invariant-loop-rest : goal.invariant-loop-rest
invariant-loop-rest l = IsSplit l.value l.rest l.digits.items × (length l.digits.items ≤ 20) × (l.digits.capacity ≡ 20)

abbrev pub decreases-loop-rest : goal.decreases-loop-rest
decreases-loop-rest l = l.rest
