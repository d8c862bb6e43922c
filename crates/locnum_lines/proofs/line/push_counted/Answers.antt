use Rattle.std.proofs.Common.{sym, ◌∙◌}
use Rattle.std.proofs.lemmas.Result.{IfOk-weaker}
use Rattle.locnum_lines.specs.declared.cutting.FieldState.TheVariants.{Front}
use Rattle.locnum_lines.proofs.FirstField.{field_length-within}
use Rattle.locnum_lines.proofs.Passing.{passed-goes}
use Rattle.locnum_lines.proofs.line.push_counted.Goals as goal

pub returns-then-not-chooses : goal.returns-then-not-chooses
returns-then-not-chooses c =
    IfOk-weaker c.pass_through.result _ _ (λ rest p. passed-goes c.args.settings.now c.args.form.now c.args.index c.args.line.now _
    c.args.gathered.now c.pass_through.new.gathered (rw (← c.settings.view_is) c.field_length-length.ensures)
    (sym c.chooses.ensures ∙ c.if-not-chooses.true) c.requires.counted c.requires.going _ p) c.pass_through.ensures

pub pass_through-requires : goal.pass_through-requires
pass_through-requires c = rw c.field_length-length.ensures (field_length-within _ Front c.args.line.now)
