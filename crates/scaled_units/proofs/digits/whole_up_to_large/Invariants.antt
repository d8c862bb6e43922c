use Rattle.std.proofs.Common.{◌≡◌, take, min}
use Rattle.fixed_decimal.specs.Size.{weighed}
use Rattle.scaled_units.proofs.digits.whole_up_to_large.Given as goal

abbrev pub invariant-loop-digit : goal.invariant-loop-digit
invariant-loop-digit l = l.value ≡ min (weighed 0 (take l.digit-index l.digits)) 10000000000000000000000000000
