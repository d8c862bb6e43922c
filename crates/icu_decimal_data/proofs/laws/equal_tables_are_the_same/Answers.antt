use Rattle.icu_decimal_data.proofs.SameEntries.{same_table-Decides}
use Rattle.icu_decimal_data.proofs.laws.equal_tables_are_the_same.Goals as goal

pub returns : goal.returns
returns g c = same_table-Decides
