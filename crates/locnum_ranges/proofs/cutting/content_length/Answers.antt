use Rattle.std.proofs.Common.{sym, ◌∙◌, arith}
use Rattle.locnum_lines.proofs.Cuts.{content_length-before, content_length-last, content_length-none}
use Rattle.locnum_ranges.proofs.cutting.content_length.Goals as goal

pub loop-length-preserved : goal.loop-length-preserved
loop-length-preserved c =
    let i = c.loop-length.invariant in (
      omega (arith, i.0),
      i.1 ∙ content_length-before c.args.text.now c.loop-length.length i.0 c.loop-length-test.true
          (sym c.is_blank_behind.ensures ∙ c.if-is_blank_behind.true),
    )

pub returns-else-is_blank_behind : goal.returns-else-is_blank_behind
returns-else-is_blank_behind c =
    let i = c.loop-length.invariant in
    sym (i.1 ∙ content_length-last c.args.text.now c.loop-length.length i.0 c.loop-length-test.true
    (sym c.is_blank_behind.ensures ∙ c.if-is_blank_behind.false))

pub returns-after-loop-length : goal.returns-after-loop-length
returns-after-loop-length c =
    let i = c.loop-length.invariant in
    sym (i.1 ∙ content_length-none c.args.text.now c.loop-length.length c.loop-length-test.false)
