use Rattle.std.proofs.Common.{take}
use Rattle.fixed_decimal.specs.Size.{weighed}
use Rattle.fixed_decimal.proofs.Steps.{parity_with_head, parity_alone, steps_decide, even_head, odd_head}
use Rattle.fixed_decimal.proofs.increments.steps_are_odd.Goals as goal

pub returns-then-ends_odd : goal.returns-then-ends_odd
returns-then-ends_odd c =
    odd_head _ c.args.steps (weighed 0 (take c.args.head c.args.digits.now))
    (parity_with_head c.args.increment _ c.args.steps c.in-MultiplesOf1.is) c.if-ends_odd.ensures

pub returns-else-ends_odd : goal.returns-else-ends_odd
returns-else-ends_odd c =
    even_head _ c.args.steps (weighed 0 (take c.args.head c.args.digits.now))
    (parity_with_head c.args.increment _ c.args.steps c.in-MultiplesOf1.is) c.if-ends_odd.ensures

pub returns-in-MultiplesOf5 : goal.returns-in-MultiplesOf5
returns-in-MultiplesOf5 c = steps_decide _ c.args.steps (parity_alone c.args.increment _ c.args.steps c.in-MultiplesOf5.is)
