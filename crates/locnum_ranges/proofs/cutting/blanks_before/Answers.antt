use Rattle.std.proofs.Common.{sym, ◌∙◌, arith}
use Rattle.locnum_lines.proofs.Cuts.{blanks_before-end, blanks_before-past, blanks_before-step}
use Rattle.locnum_ranges.proofs.cutting.blanks_before.Goals as goal

pub loop-length-preserved : goal.loop-length-preserved
loop-length-preserved c =
    let i = c.loop-length.invariant in
    let more = blanks_before-step c.args.text.now c.loop-length.length c.loop-length-test.true (sym c.is_blank.ensures ∙ c.if-is_blank.true) in
    (omega (arith, c.loop-length-test.true), omega (arith, i.1, more))

pub returns-else-is_blank : goal.returns-else-is_blank
returns-else-is_blank c =
    let i = c.loop-length.invariant in
    let end = blanks_before-end c.args.text.now c.loop-length.length c.loop-length-test.true (sym c.is_blank.ensures ∙ c.if-is_blank.false) in
    omega (arith, i.1, end)

pub returns-after-loop-length : goal.returns-after-loop-length
returns-after-loop-length c =
    let i = c.loop-length.invariant in
    omega (arith, i.1, blanks_before-past c.args.text.now c.loop-length.length c.loop-length-test.false)
