use Rattle.number_skeleton.proofs.Settled.{one_canonical}
use Rattle.number_skeleton.proofs.laws.canonical_is_one.Goals as goal

pub returns : goal.returns
returns c = one_canonical
