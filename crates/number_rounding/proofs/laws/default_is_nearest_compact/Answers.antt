use Rattle.number_rounding.proofs.NearestShown.{default_showable, default_is_nearest}
use Rattle.number_rounding.proofs.laws.default_is_nearest_compact.Goals as goal

pub returns : goal.returns
returns c = record { showable = default_showable; nearest = default_is_nearest }
