use Rattle.std.proofs.Common.{◌≡◌, length, ap, ◌∙◌, arith}
use Rattle.std.specs.Str.Iter.{char_indices_rest, char_indices_offset}
use Rattle.icu_dimension_data.proofs.Left.{bounded, left-start, left-next, left-whole, left-read}
use Rattle.icu_dimension_data.proofs.reading.read.Goals as goal

pub loop-at-init : goal.loop-at-init
loop-at-init c =
    let iterator = c.into_iter-at-iterator.result in
    let given = c.into_iter-at-iterator.ensures.into_iter_gives in
    let rest : char_indices_rest iterator ≡ c.args.text.now = ap char_indices_rest given ∙ c.char_indices-at-items.ensures.rest in
    let at : char_indices_offset iterator ≡ 0 = ap char_indices_offset given ∙ c.char_indices-at-items.ensures.offset in (
      omega (arith, at, ap length rest, c.char_indices-at-items.ensures.len),
      tt,
      left-start _ _ _ _ _ c.utf8.text rest at c.start-state.ensures c.new-draft.ensures,
    )

pub loop-at-preserved : goal.loop-at-preserved
loop-at-preserved c = (
  bounded _ _ _ _ c.in-Some.character _ _ c.in-Some.ensures.steps c.loop-at.invariant.0,
  tt,
  rw c.in_ok-take-in-Ok.ensures.taken (left-next {c = c.in-Some.character} {t = c.in-Ok.step} c.loop-at.invariant.2 (record {
    reads = c.in-Some.ensures.steps;
    answer = c.step.ensures;
    is = c.in-Ok.is;
  })),
)

-- a text that is a pattern goes on
pub unreachable-requires : goal.unreachable-requires
unreachable-requires c = left-whole {c = c.in-Some.character} c.loop-at.invariant.2 (record {
  reads = c.in-Some.ensures.steps;
  answer = c.step.ensures;
  is = c.in-Err.is;
}) c.requires

pub returns-clause-read : goal.returns-clause-read
returns-clause-read c = left-read _ _ _ _ _ _ c.loop-at.invariant.2 c.in-None.ensures.steps.0 c.requires c.finish.ensures
