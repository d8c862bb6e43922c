use Rattle.std.proofs.Common.{arith}
use Rattle.std.proofs.lemmas.Int.{ints}
use Rattle.number_rounding.proofs.PlaceLemmas.{finest_is, place_given}
use Rattle.number_rounding.proofs.rounded.power_at.Goals as goal

pub returns : goal.returns
returns c = place_given _ c.args.at (omega (arith, ints, finest_is))

pub overflow_cast-result : goal.overflow_cast-result
overflow_cast-result c = omega (arith, ints, finest_is)

pub overflow_sub-result : goal.overflow_sub-result
overflow_sub-result c = omega (arith, ints, finest_is)

pub overflow_cast-result-3 : goal.overflow_cast-result-3
overflow_cast-result-3 c = omega (arith, ints, finest_is)
