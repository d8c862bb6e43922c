use Rattle.std.proofs.Common.{sym, ◌∙◌}
use Rattle.locnum_lines.proofs.Chosen.{chosen-before, chosen-behind, chosen-here, chosen-none}
use Rattle.locnum_lines.proofs.settings.is_chosen.Goals as goal
use Rattle.locnum_lines.proofs.settings.is_chosen.Goals.{else-range-index-via-else-range-index, else-range-index-via-then-range-index+else-index-range}

pub returns-then-index-range : goal.returns-then-index-range
returns-then-index-range c = sym (c.loop-range.invariant
    ∙ chosen-here c.args.ranges.now c.args.index c.loop-range.range-index c.loop-range-test.true c.if-range-index.true c.if-index-range.true)

pub loop-range-preserved : goal.loop-range-preserved
loop-range-preserved c = elim c.else-range-index.branch [
  | else-range-index-via-then-range-index+else-index-range w ↦ c.loop-range.invariant
      ∙ chosen-behind c.args.ranges.now c.args.index c.loop-range.range-index c.loop-range-test.true w.if-range-index.true w.if-index-range.false
  | else-range-index-via-else-range-index w ↦ c.loop-range.invariant
      ∙ chosen-before c.args.ranges.now c.args.index c.loop-range.range-index c.loop-range-test.true w.if-range-index.false
]

pub returns : goal.returns
returns c = sym (c.loop-range.invariant ∙ chosen-none c.args.ranges.now c.args.index c.loop-range.range-index c.loop-range-test.false)
