use Rattle.number_skeleton.proofs.Read.{canonical_read}
use Rattle.number_skeleton.proofs.laws.canonical_is_read.Goals as goal

pub returns : goal.returns
returns c = canonical_read
