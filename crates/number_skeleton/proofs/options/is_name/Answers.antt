use Rattle.std.proofs.Common.{sym, ◌∙◌}
use Rattle.number_skeleton.proofs.Ascii.{name_ends, name_goes_on, name_end}
use Rattle.number_skeleton.proofs.options.is_name.Goals as goal

pub returns-in-None : goal.returns-in-None
returns-in-None c =
    sym (c.loop-byte.invariant ∙ name_ends c.args.word.now c.loop-byte.byte-index c.loop-byte.begins c.loop-byte-test.true (sym c.next_begins.ensures ∙
    c.in-None.is))

pub loop-byte-preserved : goal.loop-byte-preserved
loop-byte-preserved c =
    c.loop-byte.invariant
    ∙ name_goes_on c.args.word.now c.loop-byte.byte-index c.loop-byte.begins c.loop-byte-test.true c.in-Some.next (sym c.next_begins.ensures ∙ c.in-Some.is)

pub returns : goal.returns
returns c = sym (c.loop-byte.invariant ∙ name_end c.args.word.now c.loop-byte.byte-index c.loop-byte.begins c.loop-byte-test.false)
