use Rattle.std.proofs.Common.{arith}
use Rattle.std.proofs.lemmas.Int.{ints}
use Rattle.icu_decimal.proofs.PowerPlaces.{rounding_place_at_exponent, rounding_place_below_magnitude}
use Rattle.icu_decimal.proofs.compact_rounding.round_power.Goals as goal

pub returns-then-magnitude-exponent-clause-place : goal.returns-then-magnitude-exponent-clause-place
returns-then-magnitude-exponent-clause-place c = rounding_place_at_exponent c.args.exponent c.args.magnitude _ c.ranges.magnitude (omega (arith, ints))
    (omega (arith, ints))

pub returns-else-magnitude-exponent-clause-place : goal.returns-else-magnitude-exponent-clause-place
returns-else-magnitude-exponent-clause-place c = rounding_place_below_magnitude c.args.exponent c.args.magnitude _ c.ranges.magnitude (omega (arith, ints))
    (omega (arith, ints))
