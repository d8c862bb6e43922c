use Rattle.std.proofs.Common.{rules}
use Rattle.icu_dimension_tables.specs.AllTables.{AllData}
use Rattle.number_formatters.specs.Loaded.{named_by_notation}
use Rattle.number_forms.specs.Making.{form_started}
use Rattle.number_forms.proofs.ServedAll.{with_all-for}
use Rattle.number_forms.proofs.ServedCompact.{named_by-same}
use Rattle.number_forms.proofs.making.named_form.Goals as goal

pub returns-in_err-all : goal.returns-in_err-all
returns-in_err-all c =
    let load = named_by_notation c.args.notation c.args.settings.now c.args.code c.args.is_cash in
    let told = c.in_err-all.ensures.refused (λ (all : AllData). form_started c.args.settings.now (load all.numbers all.dimension)) in
    search (rules, told, c.from_residual.ensures)

pub returns : goal.returns
returns c =
    let kept = c.in_ok-all.all in
    let load = named_by_notation c.args.notation c.args.settings.now c.args.code c.args.is_cash in
    rw (with_all-for c.args.settings.now c.args.text.now kept load c.in_ok-all.ensures.tables (λ all answers.
    named_by-same c.args.settings.now kept all answers c.args.notation c.args.code c.args.is_cash))
    (c.started.ensures (load kept.numbers kept.dimension) c.load_named_by.ensures)
