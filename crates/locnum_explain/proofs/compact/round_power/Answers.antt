use Rattle.std.proofs.Common.{arith}
use Rattle.std.proofs.lemmas.Int.{ints}
use Rattle.icu_decimal.proofs.PowerPlaces.{rounding_place_at_exponent, rounding_place_below_magnitude}
use Rattle.locnum_explain.proofs.compact.round_power.Goals as goal

pub returns-then-magnitude-exponent : goal.returns-then-magnitude-exponent
returns-then-magnitude-exponent c = rounding_place_at_exponent c.args.exponent c.args.magnitude _ c.ranges.magnitude (omega (arith, ints))
    (omega (arith, ints))

pub returns-else-magnitude-exponent : goal.returns-else-magnitude-exponent
returns-else-magnitude-exponent c = rounding_place_below_magnitude c.args.exponent c.args.magnitude _ c.ranges.magnitude (omega (arith, ints))
    (omega (arith, ints))
