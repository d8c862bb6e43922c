use Rattle.icu_dimension.proofs.Hundred.{hundredfold_first}
use Rattle.icu_dimension.proofs.laws.a_percent_has_no_zero_at_its_front.Goals as goal

pub returns : goal.returns
returns c = hundredfold_first
