use Rattle.std.proofs.Common.{◌∙◌, ap, min}
use Rattle.fixed_decimal.specs.Size.{weighed}
use Rattle.scaled_units.proofs.Wholes.{power_of_whole}
use Rattle.scaled_units.proofs.division.power_of.Goals as goal

pub returns-clause-power : goal.returns-clause-power
returns-clause-power c = power_of_whole c.args.number.now c.args.base c.greatest_power.result c.whole_up_to_large.result c.integer.ensures.valid
    (c.whole_up_to_large.ensures ∙ ap (λ l. min (weighed 0 l) 10000000000000000000000000000) c.integer.ensures.digits) c.greatest_power.ensures.within
    c.greatest_power.ensures.reached c.greatest_power.ensures.greatest
