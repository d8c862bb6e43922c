use Rattle.std.proofs.Common.{◌≡◌, ◌-◌, ◌*◌, ◌+◌, ◌^◌, ◌≤◌, length, take, drop}
use Rattle.fixed_decimal.specs.Unsigned.{AreDigits}
use Rattle.fixed_decimal.specs.Size.{weighed}
use Rattle.scaled_units.proofs.digits.multiply.Given as goal

abbrev pub invariant-loop-left : goal.invariant-loop-left
invariant-loop-left l = record {
  within : l.left ≤ length l.digits;
  small : l.carry ≤ l.factor;
  digits : AreDigits l.digits;
  before : take l.left l.digits ≡ take l.left l.initial.digits;
  product : weighed 0 (drop l.left l.digits) + l.carry * 10 ^ (length l.initial.digits - l.left) ≡ weighed 0 (drop l.left l.initial.digits) * l.factor;
}

abbrev pub decreases-loop-left : goal.decreases-loop-left
decreases-loop-left l = l.left
