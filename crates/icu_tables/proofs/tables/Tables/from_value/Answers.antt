-- Goals that a search finds; it is not tried longer where one is false.
use Rattle.std.proofs.Common.{rules}
use Rattle.icu_tables.specs.Tables.{tables_at}
use Rattle.icu_tables.proofs.tables.Tables.from_value.Goals as goal

pub returns : goal.returns
unfolding tables_at
returns c = search rules

pub returns-in_err-entries_under : goal.returns-in_err-entries_under
unfolding tables_at
returns-in_err-entries_under c = search rules

pub returns-in_err-entries_under-2 : goal.returns-in_err-entries_under-2
unfolding tables_at
returns-in_err-entries_under-2 c = search rules

pub returns-in_err-optional_entries : goal.returns-in_err-optional_entries
unfolding tables_at
returns-in_err-optional_entries c = search rules

pub returns-in_err-optional_entries-2 : goal.returns-in_err-optional_entries-2
unfolding tables_at
returns-in_err-optional_entries-2 c = search rules

pub returns-in_err-optional_entries-3 : goal.returns-in_err-optional_entries-3
unfolding tables_at
returns-in_err-optional_entries-3 c = search rules

pub returns-in_err-value : goal.returns-in_err-value
unfolding tables_at
returns-in_err-value c = search rules
