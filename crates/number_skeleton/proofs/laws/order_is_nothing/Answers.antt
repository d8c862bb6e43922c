use Rattle.number_skeleton.proofs.Reordered.{order_nothing}
use Rattle.number_skeleton.proofs.laws.order_is_nothing.Goals as goal

pub returns : goal.returns
returns c = order_nothing
