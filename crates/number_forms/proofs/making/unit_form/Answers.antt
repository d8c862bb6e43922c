use Rattle.std.proofs.Common.{rules}
use Rattle.icu_dimension_tables.specs.AllTables.{AllData}
use Rattle.number_formatters.specs.Loaded.{unit_by_notation}
use Rattle.number_forms.specs.Making.{form_started}
use Rattle.number_forms.proofs.ServedAll.{with_all-for}
use Rattle.number_forms.proofs.ServedCompact.{unit_by-same}
use Rattle.number_forms.proofs.making.unit_form.Goals as goal

pub returns-in_err-all : goal.returns-in_err-all
returns-in_err-all c =
    let load = unit_by_notation c.args.notation c.args.settings.now c.args.name.now c.args.width in
    let told = c.in_err-all.ensures.refused (λ (all : AllData). form_started c.args.settings.now (load all.numbers all.dimension)) in
    search (rules, told, c.from_residual.ensures)

pub returns : goal.returns
returns c =
    let kept = c.in_ok-all.all in
    let load = unit_by_notation c.args.notation c.args.settings.now c.args.name.now c.args.width in
    rw (with_all-for c.args.settings.now c.args.text.now kept load c.in_ok-all.ensures.tables (λ all answers.
    unit_by-same c.args.settings.now kept all answers c.args.notation c.args.name.now c.args.width))
    (c.started.ensures (load kept.numbers kept.dimension) c.load_unit_by.ensures)
