use Rattle.std.proofs.Common.{◌∙◌}
use Rattle.locnum_explain.proofs.Shortest.{shortest-unequal}
use Rattle.locnum_explain.proofs.rounding.is_rounded.Goals as goal

pub returns : goal.returns
returns c = c.ne.ensures ∙ shortest-unequal _ _ _ _ c.in_ok-read.ensures c.in_ok-written.ensures
