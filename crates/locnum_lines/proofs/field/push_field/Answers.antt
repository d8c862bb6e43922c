use Rattle.std.proofs.Common.{◌≡◌, inl, inr, sym, ap, ◌∙◌}
use Rattle.std.proofs.lemmas.Result.{on_ok_weaker}
use Rattle.locnum_lines.specs.declared.settings.Delimiter.TheVariants.{Blanks, Byte}
use Rattle.locnum_lines.proofs.Numbers.{field-picked}
use Rattle.locnum_lines.proofs.field.push_field.Goals as goal

pub returns-in-Blanks : goal.returns-in-Blanks
returns-in-Blanks c =
    let chosen = c.requires.chosen in
    let is : c.args.settings.now.delimiter ≡ c.settings.inside.delimiter = sym (ap (λ s. s.delimiter) c.settings.view_is) in
    on_ok_weaker c.push_plain.result (λ a. elim c.in-Blanks.is [
      | inl e ↦ field-picked c.args.settings.now c.args.form.now c.args.gathered.now.stage _ c.args.index c.args.text.now chosen Blanks (is ∙ e) _ _
          c.requires.counted a
      | inr w ↦ field-picked c.args.settings.now c.args.form.now c.args.gathered.now.stage _ c.args.index c.args.text.now chosen (Byte w.0) (is ∙ w.1) _ _
          c.requires.counted a
    ]) c.push_plain.ensures

pub returns-in-Csv : goal.returns-in-Csv
returns-in-Csv c =
    let chosen = c.requires.chosen in
    on_ok_weaker c.push_csv.result (λ a. field-picked c.args.settings.now c.args.form.now c.args.gathered.now.stage _ c.args.index c.args.text.now chosen _
    (sym (ap (λ s. s.delimiter) c.settings.view_is) ∙ c.in-Csv.is) _ _ c.requires.counted a) c.push_csv.ensures
