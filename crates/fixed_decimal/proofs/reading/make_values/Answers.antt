use Rattle.std.proofs.Common.{◌-◌, arith}
use Rattle.std.proofs.lemmas.List.{get_or_default}
use Rattle.std.proofs.lemmas.List.Edits.{map_over_more}
use Rattle.fixed_decimal.proofs.reading.make_values.Goals as goal

pub loop-i-preserved : goal.loop-i-preserved
loop-i-preserved c = map_over_more (λ c. c - 48) c.args.digits.now c.loop-i.digits c.loop-i.i _ (omega arith) c.loop-i.invariant
    (get_or_default c.loop-i.digits c.loop-i.i 0 _ (omega (arith, c.loop-i-test.true, c.loop-i.auto.digits)))
