use Rattle.std.proofs.Common.{◌≡◌, ◌+◌, ◌-◌, length, take, drop, sym, ◌∙◌, arith}
use Rattle.std.proofs.lemmas.List.{take_all, drop_all, length-drop}
use Rattle.locnum_options.specs.Locale.{subtags_of}
use Rattle.locnum_options.proofs.Subtags.{onto_first-none, subtags_of-here, subtags_of-last, subtags_of-step}
use Rattle.locnum_options.proofs.locale.next_subtag.Goals as goal

pub loop-index-init : goal.loop-index-init
loop-index-init c = sym (onto_first-none (subtags_of c.args.text.now))

pub returns-then-is_separator-clause-subtags : goal.returns-then-is_separator-clause-subtags
returns-then-is_separator-clause-subtags c =
    let text = c.args.text.now in
    let n = c.loop-index.index in
    let all : take (length text - (n + 1)) (drop (n + 1) text) ≡ drop (n + 1) text =
    take_all (length text - (n + 1)) (drop (n + 1) text) (omega (arith, length-drop (n + 1) text)) in
    rw all (c.loop-index.invariant ∙ subtags_of-here text n (omega arith) (sym c.is_separator.ensures ∙ c.if-is_separator.true))

pub loop-index-preserved : goal.loop-index-preserved
loop-index-preserved c =
    c.loop-index.invariant ∙ subtags_of-step c.args.text.now c.loop-index.index (omega arith) (sym c.is_separator.ensures ∙ c.if-is_separator.false)

pub returns-clause-subtags : goal.returns-clause-subtags
returns-clause-subtags c =
    c.loop-index.invariant ∙ rw (take_all c.loop-index.index c.args.text.now (omega arith), drop_all c.loop-index.index c.args.text.now (omega arith))
    (subtags_of-last c.args.text.now)
