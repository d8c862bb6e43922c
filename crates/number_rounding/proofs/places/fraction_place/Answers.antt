use Rattle.std.proofs.Common.{arith}
use Rattle.number_rounding.proofs.PlaceLemmas.{finest_is}
use Rattle.number_rounding.proofs.places.fraction_place.Goals as goal

pub returns-in-Some : goal.returns-in-Some
returns-in-Some c = rw (c.in-Some.is, finest_is) (omega arith)
