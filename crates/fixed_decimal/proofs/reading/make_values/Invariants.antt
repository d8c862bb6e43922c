use Rattle.std.proofs.Common.{◌≡◌, ◌++◌, take, drop}
use Rattle.fixed_decimal.specs.Text.{digit_values}
use Rattle.fixed_decimal.proofs.reading.make_values.Given as goal

abbrev pub invariant-loop-i : goal.invariant-loop-i
invariant-loop-i l = l.digits ≡ digit_values (take l.i l.initial.digits) ++ drop l.i l.initial.digits
