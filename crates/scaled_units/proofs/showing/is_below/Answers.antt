use Rattle.std.proofs.Common.{◌∙◌, ap, min, arith}
use Rattle.fixed_decimal.specs.Size.{weighed}
use Rattle.scaled_units.proofs.Shows.{below_test}
use Rattle.scaled_units.proofs.showing.is_below.Goals as goal

pub returns : goal.returns
returns c = below_test c.args.number.now c.whole_up_to_large.result c.args.bound 10000000000000000000000000000 c.integer.ensures.valid
    (c.whole_up_to_large.ensures ∙ ap (λ l. min (weighed 0 l) 10000000000000000000000000000) c.integer.ensures.digits)
    (omega (arith, c.ranges.bound))
