use Rattle.std.proofs.Common.{rules}
use Rattle.number_formatters.specs.Loaded.{long_loaded}
use Rattle.number_forms.specs.Making.{form_started}
use Rattle.number_forms.proofs.Served.{long-same, with_tables-for}
use Rattle.number_forms.proofs.making.long_form.Goals as goal

pub returns-in_err-tables : goal.returns-in_err-tables
returns-in_err-tables c =
    let told = c.in_err-tables.ensures.refused (λ tables. form_started c.args.settings.now (long_loaded c.args.settings.now tables)) in
    search (rules, told, c.from_residual.ensures)

pub returns : goal.returns
returns c =
    let kept = c.in_ok-tables.tables in
    let load = long_loaded c.args.settings.now in
    rw (with_tables-for c.args.settings.now c.args.text.now kept load c.in_ok-tables.ensures.tables (λ all answers.
    long-same c.args.settings.now kept all answers))
    (c.started.ensures (load kept) c.load_long.ensures)
