use Rattle.std.proofs.Common.{sym, ◌∙◌}
use Rattle.locnum_lines.proofs.Quotes.{wants-here, wants-later, wants-none}
use Rattle.locnum_ranges.proofs.csv.wants_quotes.Goals as goal

pub returns-then-is_special : goal.returns-then-is_special
returns-then-is_special c = sym (c.loop-byte.invariant
    ∙ wants-here c.args.delimiter c.args.end c.args.text.now c.loop-byte.byte-index c.loop-byte-test.true (sym c.if-is_special.ensures))

pub loop-byte-preserved : goal.loop-byte-preserved
loop-byte-preserved c = c.loop-byte.invariant
    ∙ wants-later c.args.delimiter c.args.end c.args.text.now c.loop-byte.byte-index c.loop-byte-test.true (sym c.if-is_special.ensures)

pub returns : goal.returns
returns c = sym (c.loop-byte.invariant
    ∙ wants-none c.args.delimiter c.args.end c.args.text.now c.loop-byte.byte-index c.loop-byte-test.false)
