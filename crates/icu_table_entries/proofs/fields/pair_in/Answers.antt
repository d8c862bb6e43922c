-- Goals that a search finds; it is not tried longer where one is false.
use Rattle.std.proofs.Common.{arith, rules}
use Rattle.icu_table_entries.specs.Reading.{two_of, pair_in}
use Rattle.std.proofs.lemmas.Grind.{common_steps}
use Rattle.icu_table_entries.proofs.fields.pair_in.Goals as goal

pub returns-in-len2 : goal.returns-in-len2
unfolding pair_in two_of
returns-in-len2 c = grind (arith, common_steps)

pub returns-in_default : goal.returns-in_default
unfolding pair_in two_of
returns-in_default c = grind (arith, common_steps)

pub returns-in_err-list_in : goal.returns-in_err-list_in
unfolding pair_in two_of
returns-in_err-list_in c = search rules
