use Rattle.std.proofs.Common.{sym, ◌∙◌}
use Rattle.locnum_lines.proofs.States.{begun-end, begun-step}
use Rattle.locnum_lines.proofs.records.last_begun.Goals as goal

pub loop-byte-preserved : goal.loop-byte-preserved
loop-byte-preserved c = rw (c.state_after-state.ensures, c.begun_after-begun.ensures, c.ends_field.ensures, c.in_ok-line.ensures) (c.loop-byte.invariant
    ∙ begun-step c.args.delimiter c.args.record.now c.loop-byte.byte-index c.loop-byte.state c.args.end c.loop-byte.begun c.loop-byte.line
    c.loop-byte-test.true)

pub returns : goal.returns
returns c = sym (c.loop-byte.invariant
    ∙ begun-end c.args.delimiter c.args.record.now c.loop-byte.byte-index c.loop-byte.state c.args.end c.loop-byte.begun c.loop-byte.line
    c.loop-byte-test.false)
