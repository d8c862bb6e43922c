use Rattle.std.proofs.Common.{◌≡◌, ◌*◌, ◌^◌, length}
use Rattle.fixed_decimal.specs.Unsigned.{AreDigits}
use Rattle.fixed_decimal.specs.Size.{weighed}
use Rattle.scaled_units.proofs.product.multiply_times.Given as goal

abbrev pub invariant-loop : goal.invariant-loop
invariant-loop l = record {
  product : weighed 0 l.digits ≡ weighed 0 l.initial.digits * l.factor ^ l.counter;
  digits : AreDigits l.digits;
  length : length l.digits ≡ length l.initial.digits;
}
