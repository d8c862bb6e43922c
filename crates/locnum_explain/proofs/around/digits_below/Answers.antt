use Rattle.std.proofs.Common.{arith}
use Rattle.std.proofs.lemmas.Int.{ints}
use Rattle.locnum_explain.proofs.Below.{below_none, below_some}
use Rattle.locnum_explain.proofs.around.digits_below.Goals as goal

pub returns-then-below-lt0 : goal.returns-then-below-lt0
returns-then-below-lt0 c = below_none c.args.power c.args.scale c.requires (omega (arith, ints))

pub returns-else-below-lt0 : goal.returns-else-below-lt0
returns-else-below-lt0 c = below_some c.args.power c.args.scale _ c.requires (omega (arith, ints))
