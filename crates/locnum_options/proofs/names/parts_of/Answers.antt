use Rattle.std.proofs.Common.{sym, ◌∙◌, arith, rules}
use Rattle.std.proofs.lemmas.Str.Pattern.{split_parts}
use Rattle.locnum_options.proofs.Parts.{part-here, part-last}
use Rattle.locnum_options.proofs.names.parts_of.Goals as goal

pub loop-part-preserved : goal.loop-part-preserved
loop-part-preserved c =
    let l = c.loop-part in
    let cut = rw c.in-Some.is at (split_parts 44 l.rest.now c.split_once.result c.split_once.ensures.cases (omega arith)) in
    (rw c.in_ok-push.ensures.items (l.invariant.0 ∙ part-here l.parts.items c.in-Some.part l.rest.now c.in-Some.behind.now cut.1 cut.0), search rules)

pub returns : goal.returns
returns c =
    let l = c.loop-part in
    let lacks = rw c.in_default.is at (split_parts 44 l.rest.now c.split_once.result c.split_once.ensures.cases (omega arith)) in
    rw c.in_ok-push-2.ensures.items (sym (l.invariant.0 ∙ part-last l.parts.items l.rest lacks))
