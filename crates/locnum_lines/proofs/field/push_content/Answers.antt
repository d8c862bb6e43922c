use Rattle.std.proofs.Common.{◌≢◌, ◌++◌, refl, ap, ◌∙◌}
use Rattle.std.proofs.lemmas.Bool.{false≢true}
use Rattle.std.proofs.lemmas.Result.{on_ok_weaker}
use Rattle.std.specs.Prelude.{Option}
use Rattle.writeable.specs.Events.{text_of}
use Rattle.decimal_lines.specs.declared.single_text.TextError.TheVariants.{OutOfMemory}
use Rattle.locnum_lines.specs.FieldRuns.{blanks_kept}
use Rattle.locnum_lines.specs.Padding.{padded}
use Rattle.locnum_lines.specs.declared.padding.Width.{Width}
use Rattle.locnum_lines.proofs.Adding.{only_added}
use Rattle.locnum_lines.proofs.Cuts.{blanks_before-within, content_length-within, cut_field-is}
use Rattle.locnum_lines.proofs.Numbers.{csv-refused, csv-shown, parts-csv}
use Rattle.locnum_lines.proofs.field.push_content.Goals as goal

pub split_at-requires : goal.split_at-requires
split_at-requires c = rw c.blanks_before.ensures (blanks_before-within c.args.content.now)

pub split_at-requires-2 : goal.split_at-requires-2
split_at-requires-2 c = rw c.content_length.ensures (content_length-within c.split_at.result.1.now)

pub returns-in_ok-replace-in-Ok : goal.returns-in_ok-replace-in-Ok
returns-in_ok-replace-in-Ok c =
    let parts = cut_field-is c.args.content.now _ _ _ _ _ _ c.blanks_before.ensures c.split_at.ensures.front c.split_at.ensures.back
    c.content_length.ensures c.split_at-2.ensures.front c.split_at-2.ensures.back in
    let shown = c.deref.ensures.value ∙ ap (λ g. g.output) c.apart.view_is
    ∙ only_added _ _ _ c.in-Ok.ensures.ok.2 (ap (λ g. g.output) c.apart-apart.ensures.nothing)
    ∙ ap (λ (w : Option Width). (blanks_kept w c.split_at.result.0.now ++ padded w (text_of c.in-Ok.ensures.ok.0)) ++ c.split_at-2.result.1.now)
    c.padding_width.ensures in
    let replaced = rw c.apart-apart.ensures.unchanged at c.in_ok-replace-in-Ok.ensures in
    rw (← c.settings.view_is) (parts-csv _ c.args.form.now c.args.gathered.now.stage _ c.args.index _ _ c.args.delimiter c.args.text.now c.args.content.now
    _ _ _ parts (csv-shown _ c.args.form.now c.args.gathered.now.stage _ c.args.index _ _ c.args.delimiter c.args.text.now _ c.in-Ok.ensures.ok.0
    c.deref.result.now c.requires refl
    c.in-Ok.ensures.ok.1 shown (c.take_back.ensures ∙ replaced)))

pub returns-else-eq : goal.returns-else-eq
returns-else-eq c =
    let parts = cut_field-is c.args.content.now _ _ _ _ _ _ c.blanks_before.ensures c.split_at.ensures.front c.split_at.ensures.back
    c.content_length.ensures c.split_at-2.ensures.front c.split_at-2.ensures.back in
    let told : c.in-Err.error ≢ OutOfMemory = λ e. false≢true (c.if-eq.ensures ∙ rw e refl) in
    on_ok_weaker c.refuse_field.result (λ a. parts-csv c.args.settings.now c.args.form.now c.args.gathered.now.stage _ c.args.index _ _
    c.args.delimiter c.args.text.now c.args.content.now _ _ _ parts
    (csv-refused c.args.settings.now c.args.form.now c.args.gathered.now.stage _ c.args.index _ _ c.args.delimiter c.args.text.now _
    c.in-Err.error c.in-Err.ensures.refused told a))
    (rw c.apart-apart.ensures.unchanged at c.refuse_field.ensures)
