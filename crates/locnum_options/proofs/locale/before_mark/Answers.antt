use Rattle.std.proofs.Common.{sym, ◌∙◌, arith}
use Rattle.std.proofs.lemmas.List.{append-nil, take_all, drop_all}
use Rattle.locnum_options.specs.Locale.{before_mark}
use Rattle.locnum_options.proofs.Subtags.{before_mark-here, before_mark-step}
use Rattle.locnum_options.proofs.locale.before_mark.Goals as goal

pub returns-then-is_mark : goal.returns-then-is_mark
returns-then-is_mark c =
    sym (c.loop-index.invariant ∙ before_mark-here c.args.text.now c.loop-index.index (omega arith) (sym c.is_mark.ensures ∙ c.if-is_mark.true))

pub loop-index-preserved : goal.loop-index-preserved
loop-index-preserved c =
    c.loop-index.invariant ∙ before_mark-step c.args.text.now c.loop-index.index (omega arith) (sym c.is_mark.ensures ∙ c.if-is_mark.false)

pub returns : goal.returns
unfolding before_mark
returns c = sym (c.loop-index.invariant
    ∙ rw (take_all c.loop-index.index c.args.text.now (omega arith), drop_all c.loop-index.index c.args.text.now (omega arith))
    (append-nil c.args.text.now))
