use Rattle.icu_range_tables.specs.RangeTables.{range_tables_of}
use Rattle.talmuiga_c.proofs.Patterned.{read-stops}
use Rattle.talmuiga_c.proofs.locale_ranges.tables_in.Goals as goal

pub returns-in-Err-clause-refused : goal.returns-in-Err-clause-refused
returns-in-Err-clause-refused c = λ next. rw c.table_error.ensures (read-stops c.in-Err.error (range_tables_of c.args.text.now) next c.in-Err.ensures)
