use Rattle.number_rounding.proofs.ShownSizes.{shown_mirrored}
use Rattle.number_rounding.proofs.laws.shown_mirrored.Goals as goal

pub returns : goal.returns
returns c = shown_mirrored
