use Rattle.std.proofs.Common.{ap, subst}
use Rattle.icu_tables.specs.ForLocale.{IsFor}
use Rattle.icu_tables.specs.Tables.{tables_of}
use Rattle.number_formatters.specs.Settings.{FormSettings}
use Rattle.number_forms.proofs.Served.{fails-stops}
use Rattle.number_forms.proofs.making.tables_in.Goals as goal

pub returns-in-Ok-clause-tables : goal.returns-in-Ok-clause-tables
returns-in-Ok-clause-tables c =
    subst (λ l. IsFor l c.in-Ok.tables (tables_of c.args.text.now)) (ap (λ (w : FormSettings). w.locale) c.settings.view_is) c.in-Ok.ensures

pub returns-in-Err-clause-refused : goal.returns-in-Err-clause-refused
returns-in-Err-clause-refused c = λ next. rw c.table_error.ensures (fails-stops c.in-Err.error (tables_of c.args.text.now) next c.in-Err.ensures)
