use Rattle.number_rounding.proofs.ShownSizes.{half_modes_show}
use Rattle.number_rounding.proofs.NearestShown.{half_even_shows}
use Rattle.number_rounding.proofs.laws.nearest_is_shown.Goals as goal

pub returns : goal.returns
returns c = record { nearest = half_modes_show; even = half_even_shows }
