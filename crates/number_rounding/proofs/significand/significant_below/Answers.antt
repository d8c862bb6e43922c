use Rattle.std.proofs.Common.{arith}
use Rattle.number_rounding.proofs.PlaceLemmas.{finest_is}
use Rattle.number_rounding.proofs.significand.significant_below.Goals as goal

pub overflow_add-k : goal.overflow_add-k
overflow_add-k c = omega (arith, finest_is)

pub returns : goal.returns
returns c = omega (arith, finest_is)
