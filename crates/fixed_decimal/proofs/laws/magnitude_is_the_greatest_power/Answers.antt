use Rattle.fixed_decimal.proofs.MagnitudePlaces.{magnitude_place_low, magnitude_place_high, magnitude_place_is, magnitude_place_monotone, magnitude_place-zero}
use Rattle.fixed_decimal.proofs.laws.magnitude_is_the_greatest_power.Goals as goal

pub returns : goal.returns
returns c = record {
  reached = magnitude_place_low;
  greatest = magnitude_place_high;
  unique = magnitude_place_is;
  monotone = magnitude_place_monotone;
  zero = magnitude_place-zero;
}
