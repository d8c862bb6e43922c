use Rattle.fixed_decimal.proofs.Numerals.{Reads-one}
use Rattle.fixed_decimal.proofs.laws.text_reads_one_decimal.Goals as goal

pub returns : goal.returns
returns c = Reads-one
