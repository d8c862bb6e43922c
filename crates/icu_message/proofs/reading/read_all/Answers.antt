use Rattle.std.proofs.Common.{◌≡◌, ◌+◌, length, sym, ap, ◌∙◌, arith, inr}
use Rattle.std.specs.Prelude.{Ok}
use Rattle.icu_message.specs.Stepping.{IsNested}
use Rattle.icu_message.specs.Reading.{Drafted, ended, with_step}
use Rattle.icu_message.proofs.Left.{Left, left-start, left-next, left-stop, left-end}
use Rattle.icu_message.proofs.reading.read_all.Goals as goal

pub loop-at-init : goal.loop-at-init
loop-at-init c = (rw c.start-state.ensures (omega arith), left-start _ _ _ c.start-state.ensures c.new-draft.ensures)

pub returns-in-Err-clause-rejected : goal.returns-in-Err-clause-rejected
returns-in-Err-clause-rejected c =
    inr (left-stop c.in-Err.fault c.loop-at.invariant.1 c.loop-at-test.true (sym c.step.ensures.stepped ∙ c.in-Err.is))

pub loop-at-preserved : goal.loop-at-preserved
loop-at-preserved c =
    let nested : IsNested c.in-Ok.step.state = c.in-Ok.ensures.nested in
    let next : Left c.args.text.now (c.loop-at.at + 1) c.in-Ok.step.state (with_step c.in-Ok.step c.loop-at.draft) =
    left-next c.in-Ok.step c.loop-at.invariant.1 c.loop-at-test.true (sym c.step.ensures.stepped ∙ c.in-Ok.is) in
    (nested, rw c.in_ok-take-in-Ok.ensures.taken next)

pub returns-in-Some-clause-rejected : goal.returns-in-Some-clause-rejected
returns-in-Some-clause-rejected c =
    let all : c.loop-at.at ≡ length c.args.text.now = omega arith in
    inr (left-end c.loop-at.invariant.1 all ∙ ap (λ o. ended o c.loop-at.draft) (sym c.fault_of_end.ensures ∙ c.in-Some.is))

pub returns-in-None-clause-read : goal.returns-in-None-clause-read
returns-in-None-clause-read c =
    let all : c.loop-at.at ≡ length c.args.text.now = omega arith in
    left-end c.loop-at.invariant.1 all ∙ ap (λ o. ended o c.loop-at.draft) (sym c.fault_of_end.ensures ∙ c.in-None.is)
    ∙ ap (λ (d : Drafted). Ok d.pieces) (sym c.draft-2.view_is)
