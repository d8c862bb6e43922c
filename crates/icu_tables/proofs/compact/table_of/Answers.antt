-- Goals that a search finds; it is not tried longer where one is false.
use Rattle.std.proofs.Common.{rules}
use Rattle.icu_tables.specs.Compact.{table_of}
use Rattle.icu_tables.proofs.compact.table_of.Goals as goal

pub returns : goal.returns
unfolding table_of
returns c = search rules

pub returns-in_err-entries : goal.returns-in_err-entries
unfolding table_of
returns-in_err-entries c = search rules

pub returns-in_err-zero : goal.returns-in_err-zero
unfolding table_of
returns-in_err-zero c = search rules
