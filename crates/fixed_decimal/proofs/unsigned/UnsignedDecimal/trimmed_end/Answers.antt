use Rattle.std.proofs.Common.{arith}
use Rattle.fixed_decimal.proofs.Rounds.{finest_large}
use Rattle.fixed_decimal.proofs.Magnitudes.{weighed_trimmed}
use Rattle.fixed_decimal.proofs.unsigned.UnsignedDecimal.trimmed_end.Goals as goal

pub returns-clause-size : goal.returns-clause-size
returns-clause-size c =
    let zeros = rw c.deref.ensures at c.without_zeros-kept.ensures.zeros in
    rw (← c.self.view_is, c.truncate.ensures.items) (weighed_trimmed c.self.inside.digits.items _ c.self.inside.scale _ _ zeros
    (omega (arith, c.self.invariant.integer_some, c.without_zeros-kept.ensures.least)) (omega (arith, finest_large, c.self.invariant.low_limit)))
