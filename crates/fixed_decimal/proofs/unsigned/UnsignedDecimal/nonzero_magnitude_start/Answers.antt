use Rattle.std.proofs.Common.{arith}
use Rattle.std.proofs.lemmas.Int.{ints}
use Rattle.fixed_decimal.proofs.Rounds.{finest_large}
use Rattle.fixed_decimal.proofs.Magnitudes.{magnitude_first, magnitude_none, magnitude_only}
use Rattle.fixed_decimal.proofs.unsigned.UnsignedDecimal.nonzero_magnitude_start.Goals as goal

pub returns-then-first-len-clause-power : goal.returns-then-first-len-clause-power
returns-then-first-len-clause-power c =
    let zeros = rw c.deref.ensures at c.leading_zeros-first.ensures.zeros in
    rw (← c.self.view_is) (magnitude_only _ _ (magnitude_none c.self.inside.digits.items c.self.inside.scale _ zeros (omega arith)))

pub returns-clause-power : goal.returns-clause-power
returns-clause-power c =
    let zeros = rw c.deref.ensures at c.leading_zeros-first.ensures.zeros in
    let stops = rw c.deref.ensures at c.leading_zeros-first.ensures.stops in
    let within = rw c.deref.ensures at c.leading_zeros-first.ensures.within in
    rw (← c.self.view_is) (magnitude_only _ _ (magnitude_first c.self.inside.digits.items c.self.inside.scale c.leading_zeros-first.result _
    c.self.invariant.below_ten (omega (arith, finest_large, c.self.invariant.low_limit)) c.self.invariant.integer_some zeros (omega arith)
    (stops (omega arith)) (omega (arith, ints, c.self.invariant.integer_some, c.self.invariant.high_limit, c.self.invariant.low_limit))))
