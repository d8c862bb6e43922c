use Rattle.std.proofs.Common.{◌∙◌, arith}
use Rattle.scaled_units.proofs.Products.{factor_more, factor_room}
use Rattle.scaled_units.proofs.product.multiply_times.Goals as goal

pub multiply-requires-clause-room : goal.multiply-requires-clause-room
multiply-requires-clause-room c = rw c.loop.invariant.length
    (factor_room _ _ c.args.factor c.loop.counter c.args.power _ c.loop.invariant.product (omega arith) c.requires.small c.requires.room)

pub loop-preserved : goal.loop-preserved
loop-preserved c = record {
  product = c.multiply.ensures.product ∙ factor_more _ _ c.args.factor c.loop.counter c.loop.invariant.product;
  digits = c.multiply.ensures.digits;
  length = c.multiply.ensures.length ∙ c.loop.invariant.length;
}
