use Rattle.std.proofs.Common.{◌≡◌, ℕ, List, ◌<◌, length, sym, ap, ◌∙◌, arith}
use Rattle.std.proofs.lemmas.Bool.Decides.{nat_tests}
use Rattle.decimal_lines.specs.LineResults.{text_result}
use Rattle.decimal_lines.specs.Lines.{line_output}
use Rattle.decimal_lines.proofs.Consumed.{Fills-needs}
use Rattle.decimal_lines.proofs.FilledLines.{Fills-nothing, Fills-then}
use Rattle.decimal_lines.proofs.progress.format_some.Goals as goal

pub loop-left-init : goal.loop-left-init
loop-left-init c = Fills-nothing (text_result c.args.mode.now) c.args.input.now c.args.output.now

pub returns-in-Err-clause-too_small : goal.returns-in-Err-clause-too_small
returns-in-Err-clause-too_small c =
    let some : 0 < length c.loop-left.left.now = grind (arith, nat_tests, c.is_empty.ensures) in
    let told : c.deref.result.now ≡ line_output (text_result c.args.mode.now) c.first_line.result.0.now = c.deref.ensures.value ∙ c.in-Ok.ensures in
    let no_room = rw told at c.in-Err.ensures.too_small.1 in
    let count : c.len.result ≡ length (line_output (text_result c.args.mode.now) c.first_line.result.0.now) =
    c.len.ensures ∙ sym c.deref.ensures.len ∙ ap (λ (k : List ℕ). length k) told in
    λ e. rw (c.stopped-in-Err.ensures, count) (Fills-needs (text_result c.args.mode.now) _ _ _ _ _ c.loop-left.invariant some _ _ c.first_line.ensures no_room)

pub loop-left-preserved : goal.loop-left-preserved
loop-left-preserved c =
    let some : 0 < length c.loop-left.left.now = grind (arith, nat_tests, c.is_empty.ensures) in
    let told : c.deref.result.now ≡ line_output (text_result c.args.mode.now) c.first_line.result.0.now = c.deref.ensures.value ∙ c.in-Ok.ensures in
    let fits = rw told at c.in-Ok-put.ensures.fits in
    rw fits.0 (Fills-then (text_result c.args.mode.now) _ _ _ _ _ c.loop-left.invariant some _ _ c.first_line.ensures _ fits.1
    (rw told at c.in-Ok-put.ensures.bytes))
