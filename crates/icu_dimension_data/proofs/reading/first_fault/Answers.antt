use Rattle.std.proofs.Common.{◌≡◌, length, ap, ◌∙◌, arith}
use Rattle.std.specs.Str.Iter.{char_indices_rest, char_indices_offset}
use Rattle.icu_dimension_data.proofs.Left.{bounded, looks-start, looks-next, looks-stop, looks-end, looks-whole}
use Rattle.icu_dimension_data.proofs.reading.first_fault.Goals as goal

pub loop-at-init : goal.loop-at-init
loop-at-init c =
    let iterator = c.into_iter-at-iterator.result in
    let given = c.into_iter-at-iterator.ensures.into_iter_gives in
    let rest : char_indices_rest iterator ≡ c.args.text.now = ap char_indices_rest given ∙ c.char_indices-at-items.ensures.rest in
    let at : char_indices_offset iterator ≡ 0 = ap char_indices_offset given ∙ c.char_indices-at-items.ensures.offset in
    (omega (arith, at, ap length rest, c.char_indices-at-items.ensures.len), tt, looks-start _ _ _ _ c.utf8.text rest at c.start-state.ensures)

pub loop-at-preserved : goal.loop-at-preserved
loop-at-preserved c = (
  bounded _ _ _ _ c.in-Some.character _ _ c.in-Some.ensures.steps c.loop-at.invariant.0,
  tt,
  looks-next {c = c.in-Some.character} {t = c.in-Ok.step} c.loop-at.invariant.2 (record {
    reads = c.in-Some.ensures.steps;
    answer = c.step.ensures;
    is = c.in-Ok.is;
  }),
)

pub returns-in-Err-clause-fault : goal.returns-in-Err-clause-fault
returns-in-Err-clause-fault c = looks-stop {c = c.in-Some.character} c.loop-at.invariant.2 (record {
  reads = c.in-Some.ensures.steps;
  answer = c.step.ensures;
  is = c.in-Err.is;
})

pub returns-clause-fault : goal.returns-clause-fault
returns-clause-fault c = rw c.end_fault.ensures (looks-end _ _ _ _ c.loop-at.invariant.2 c.in-None.ensures.steps.0)

pub returns-clause-none : goal.returns-clause-none
returns-clause-none c = rw c.end_fault.ensures (looks-whole _ _ _ _ c.loop-at.invariant.2 c.in-None.ensures.steps.0)
