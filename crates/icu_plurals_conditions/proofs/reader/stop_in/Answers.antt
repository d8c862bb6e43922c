use Rattle.std.proofs.Common.{Bool, cond, refl, Some, None, length, sym, ap, ◌∙◌, arith}
use Rattle.icu_plurals_conditions.proofs.Steps.{looks-start, looks-stop, looks-next, looks-end}
use Rattle.icu_plurals_conditions.proofs.reader.stop_in.Goals as goal

pub loop-found-init : goal.loop-found-init
loop-found-init c = looks-start _ _ _ c.part-part.ensures refl

pub overflow_add-result : goal.overflow_add-result
overflow_add-result c = omega (arith, c.loop-found.invariant.left.offset, c.in-Some.ensures.begun, c.in-Some.ensures.within)

pub returns-in-None : goal.returns-in-None
returns-in-None c = looks-stop _ _ _ _ _ _ c.loop-found.invariant c.in-Some.ensures (sym c.next.ensures ∙ c.in-None.is)

pub overflow_add-at : goal.overflow_add-at
overflow_add-at c = omega (arith, c.loop-found.invariant.left.offset, c.in-Some.ensures.within)

pub loop-found-preserved : goal.loop-found-preserved
loop-found-preserved c = looks-next _ _ _ _ _ _ _ _ c.loop-found.invariant c.in-Some.ensures (sym c.next.ensures ∙ c.in-Some-next.is) c.split_at.ensures.back

pub returns-then-may_end : goal.returns-then-may_end
returns-then-may_end c = ap (λ (b : Bool). cond b None (Some (length c.part-part.result.now))) (sym (sym c.may_end.ensures ∙ c.if-may_end.true))
    ∙ looks-end _ _ _ _ _ c.loop-found.invariant c.in_default.ensures

pub returns-else-may_end : goal.returns-else-may_end
returns-else-may_end c = ap (λ (b : Bool). cond b None (Some (length c.part-part.result.now))) (sym (sym c.may_end.ensures ∙ c.if-may_end.false))
    ∙ looks-end _ _ _ _ _ c.loop-found.invariant c.in_default.ensures
