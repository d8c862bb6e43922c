use Rattle.icu_dimension.proofs.Hundred.{size-hundredfold}
use Rattle.icu_dimension.proofs.laws.a_percent_is_a_hundred_times_the_number.Goals as goal

pub returns : goal.returns
returns c = size-hundredfold
