use Rattle.locnum_explain.proofs.Between.{nothing_between}
use Rattle.locnum_explain.proofs.laws.nothing_is_shown_between.Goals as goal

pub returns : goal.returns
returns c = nothing_between
