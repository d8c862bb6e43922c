use Rattle.std.proofs.Common.{sym, ◌∙◌}
use Rattle.std.proofs.lemmas.List.{append-nil}
use Rattle.locnum_lines.proofs.Naming.{names-more, names_in-is}
use Rattle.locnum_lines.proofs.names.names_in.Goals as goal

pub loop-next-init : goal.loop-next-init
loop-next-init c = rw c.new-names.ensures.items (names_in-is c.args.delimiter c.args.line.now)

pub loop-next-preserved : goal.loop-next-preserved
loop-next-preserved c =
    let i = rw c.in-Some.is at c.loop-next.invariant in
    names-more (λ v. v.items) _ _ _ _ _ _ _ i c.first_field.ensures.names c.in_ok-name_in.ensures c.in_ok-push.ensures.items

pub returns : goal.returns
returns c = let i = rw c.in_default.is at c.loop-next.invariant in sym (i ∙ append-nil _)
