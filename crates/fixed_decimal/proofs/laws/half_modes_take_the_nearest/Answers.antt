use Rattle.fixed_decimal.specs.Nearest.{IsMultiple}
use Rattle.fixed_decimal.proofs.Taken.{half_nearest, half_up_greater, half_down_lesser}
use Rattle.fixed_decimal.proofs.TakenMultiples.{half_even-nearest, nearest-half_even}
use Rattle.fixed_decimal.proofs.laws.half_modes_take_the_nearest.Goals as goal

pub returns : goal.returns
returns c = record {
  nearest = λ mode unit. half_nearest (IsMultiple unit) mode unit;
  greater = λ unit. half_up_greater (IsMultiple unit) unit;
  lesser = λ unit. half_down_lesser (IsMultiple unit) unit;
  even = λ unit x y some. (half_even-nearest unit x y some, nearest-half_even unit x y some);
}
