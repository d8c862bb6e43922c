use Rattle.std.proofs.Common.{◌≡◌, ◌<◌, length, refl, arith}
use Rattle.std.proofs.lemmas.Bool.Decides.{nat_tests}
use Rattle.decimal_lines.specs.LineResults.{text_result}
use Rattle.decimal_lines.specs.declared.filling.FillError.TheVariants.{OutOfMemory, TooSmall}
use Rattle.decimal_lines.proofs.FilledLines.{Fills-longer, Fills-nothing, Fills-room, Fills-then}
use Rattle.decimal_lines.proofs.filling.format_lines.Goals as goal

pub loop-left-init : goal.loop-left-init
loop-left-init c = Fills-nothing (text_result c.args.mode.now) c.args.input.now c.args.output.now

pub returns-in-Err-clause-too_small : goal.returns-in-Err-clause-too_small
returns-in-Err-clause-too_small c =
    let some : 0 < length c.loop-left.left.now = grind (arith, nat_tests, c.is_empty.ensures) in
    λ e.
    let same : c.in-Err.error ≡ TooSmall = cc in
    Fills-longer (text_result c.args.mode.now) _ _ _ _ _ c.loop-left.invariant some _ _ c.first_line.ensures (c.in-Err.ensures.too_small (rw same refl))

pub returns-in-Err-clause-memory : goal.returns-in-Err-clause-memory
returns-in-Err-clause-memory c =
    let some : 0 < length c.loop-left.left.now = grind (arith, nat_tests, c.is_empty.ensures) in
    λ e.
    let same : c.in-Err.error ≡ OutOfMemory = cc in
    rw c.in-Err.ensures.unchanged (Fills-room (text_result c.args.mode.now) _ _ _ _ _ c.loop-left.invariant some (c.in-Err.ensures.memory (rw same refl)))

pub loop-left-preserved : goal.loop-left-preserved
loop-left-preserved c =
    let some : 0 < length c.loop-left.left.now = grind (arith, nat_tests, c.is_empty.ensures) in
    rw c.in-Ok.ensures.end (Fills-then (text_result c.args.mode.now) _ _ _ _ _ c.loop-left.invariant some _ _ c.first_line.ensures _ c.in-Ok.ensures.fits
    c.in-Ok.ensures.bytes)
