use Rattle.number_skeleton.proofs.Settled.{read_again}
use Rattle.number_skeleton.proofs.laws.read_is_read_again.Goals as goal

pub returns : goal.returns
returns c = read_again
