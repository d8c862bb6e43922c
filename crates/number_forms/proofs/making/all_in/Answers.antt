use Rattle.std.proofs.Common.{ap, subst}
use Rattle.icu_dimension_tables.specs.AllTables.{all_tables_of}
use Rattle.icu_dimension_tables.specs.ForLocale.{IsAllFor}
use Rattle.number_formatters.specs.Settings.{FormSettings}
use Rattle.number_forms.proofs.Served.{fails-stops}
use Rattle.number_forms.proofs.making.all_in.Goals as goal

pub returns-in-Ok-clause-tables : goal.returns-in-Ok-clause-tables
returns-in-Ok-clause-tables c =
    subst (λ l. IsAllFor l c.in-Ok.all (all_tables_of c.args.text.now)) (ap (λ (w : FormSettings). w.locale) c.settings.view_is) c.in-Ok.ensures

pub returns-in-Err-clause-refused : goal.returns-in-Err-clause-refused
returns-in-Err-clause-refused c = λ next. rw c.table_error.ensures (fails-stops c.in-Err.error (all_tables_of c.args.text.now) next c.in-Err.ensures)
