use Rattle.number_rounding.proofs.ShownSizes.{magnitude_is_shown}
use Rattle.number_rounding.proofs.laws.magnitude_is_shown.Goals as goal

pub returns : goal.returns
returns c = magnitude_is_shown
