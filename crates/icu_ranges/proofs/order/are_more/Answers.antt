use Rattle.std.proofs.Common.{rules, arith, sym, ◌∙◌, ◌≢◌, subst}
use Rattle.std.specs.Prelude.{slice_index}
use Rattle.icu_ranges.proofs.Heavier.{SameSoFar, same_at_start, same_next, tells_at, tells_none}
use Rattle.icu_ranges.proofs.order.are_more.Goals as goal

pub loop-index-init : goal.loop-index-init
loop-index-init c = same_at_start c.args.digits.now c.args.others.now

pub loop-index-preserved : goal.loop-index-preserved
loop-index-preserved c =
    let next = same_next c.args.digits.now c.args.others.now c.loop-index.index
    (sym c.digit_or_zero-digit.ensures ∙ c.if-digit-other.false ∙ c.digit_or_zero-other.ensures) c.loop-index.invariant in
    subst (SameSoFar c.args.digits.now c.args.others.now) (omega arith) next

pub returns-then-digit-other : goal.returns-then-digit-other
returns-then-digit-other c =
    let x = c.digit_or_zero-digit.ensures in
    let y = c.digit_or_zero-other.ensures in
    let differ : slice_index c.args.digits.now c.loop-index.index ≢ slice_index c.args.others.now c.loop-index.index =
    λ same. c.if-digit-other.true (x ∙ same ∙ sym y) in
    tells_at _ c.args.digits.now c.args.others.now c.loop-index.index c.requires.digits c.requires.others c.loop-index.invariant differ
    (rw (sym x, sym y) (search rules))

pub returns : goal.returns
returns c =
    tells_none c.args.digits.now c.args.others.now c.loop-index.index
    (omega (arith, c.loop-index-test.false, c.max-index-end.ensures)) (omega (arith, c.loop-index-test.false, c.max-index-end.ensures)) c.loop-index.invariant
