use Rattle.std.proofs.Common.{◌≡◌, ◌++◌, replicate}
use Rattle.scaled_units.proofs.product.push_zeros.Given as goal

abbrev pub invariant-loop : goal.invariant-loop
invariant-loop l = (l.digits.items ≡ l.initial.digits.items ++ replicate l.counter 0) × (l.digits.capacity ≡ l.initial.digits.capacity)
