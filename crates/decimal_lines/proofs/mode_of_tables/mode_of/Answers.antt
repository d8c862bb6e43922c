use Rattle.std.proofs.Common.{ap, subst}
use Rattle.icu_tables.specs.ForLocale.{IsFor}
use Rattle.icu_tables.specs.Tables.{tables_of}
use Rattle.decimal_lines.specs.Words.{WordsData}
use Rattle.decimal_lines.proofs.OneLocale.{mode_for}
use Rattle.decimal_lines.proofs.mode_of_tables.mode_of.Goals as goal

pub returns-in-Ok-clause-mode : goal.returns-in-Ok-clause-mode
returns-in-Ok-clause-mode c =
    let is = subst (λ l. IsFor l c.in-Ok.tables (tables_of c.args.text.now)) (ap (λ (w : WordsData). w.locale) c.words.view_is) c.in-Ok.ensures in
    rw (mode_for c.args.words.now c.args.text.now c.in-Ok.tables is) c.mode_by.ensures.mode
