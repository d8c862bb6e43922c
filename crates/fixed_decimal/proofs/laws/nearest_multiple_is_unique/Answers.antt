use Rattle.fixed_decimal.proofs.Nearness.{nearest_some, nearest-unique}
use Rattle.fixed_decimal.proofs.laws.nearest_multiple_is_unique.Goals as goal

pub returns : goal.returns
returns c = record { some = nearest_some; one = nearest-unique }
