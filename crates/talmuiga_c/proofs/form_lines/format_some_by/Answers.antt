use Rattle.std.proofs.Common.{◌≡◌, ℕ, List, ◌<◌, length, sym, ap, ◌∙◌, arith}
use Rattle.std.proofs.lemmas.Bool.Decides.{nat_tests}
use Rattle.talmuiga_c.specs.Answers.{form_result}
use Rattle.decimal_lines.specs.Lines.{line_output}
use Rattle.decimal_lines.proofs.Consumed.{Fills-needs}
use Rattle.decimal_lines.proofs.FilledLines.{Fills-nothing, Fills-then}
use Rattle.talmuiga_c.proofs.form_lines.format_some_by.Goals as goal

pub loop-left-init : goal.loop-left-init
loop-left-init c = Fills-nothing (form_result c.args.form.now) c.args.input.now c.args.output.now

pub returns-in-Err-clause-too_small : goal.returns-in-Err-clause-too_small
returns-in-Err-clause-too_small c =
    let some : 0 < length c.loop-left.left.now = grind (arith, nat_tests, c.is_empty.ensures) in
    let told : c.deref.result.now ≡ line_output (form_result c.args.form.now) c.first_line.result.0.now = c.deref.ensures.value ∙ c.in-Ok.ensures in
    let no_room = rw told at c.in-Err.ensures.too_small.1 in
    let count : c.len.result ≡ length (line_output (form_result c.args.form.now) c.first_line.result.0.now) =
    c.len.ensures ∙ sym c.deref.ensures.len ∙ ap (λ (k : List ℕ). length k) told in
    λ e. rw (c.stopped-in-Err.ensures, count) (Fills-needs (form_result c.args.form.now) _ _ _ _ _ c.loop-left.invariant some _ _ c.first_line.ensures no_room)

pub loop-left-preserved : goal.loop-left-preserved
loop-left-preserved c =
    let some : 0 < length c.loop-left.left.now = grind (arith, nat_tests, c.is_empty.ensures) in
    let told : c.deref.result.now ≡ line_output (form_result c.args.form.now) c.first_line.result.0.now = c.deref.ensures.value ∙ c.in-Ok.ensures in
    let fits = rw told at c.in-Ok-put.ensures.fits in
    rw fits.0 (Fills-then (form_result c.args.form.now) _ _ _ _ _ c.loop-left.invariant some _ _ c.first_line.ensures _ fits.1
    (rw told at c.in-Ok-put.ensures.bytes))
