use Rattle.std.proofs.Common.{refl, sym, ap, ◌∙◌, subst}
use Rattle.std.specs.Prelude.{is_some}
use Rattle.std.specs.Str.Iter.{chars_rest}
use Rattle.icu_decimal_reading.proofs.Rests.{IsCounted, run_begins, run_ends, run_goes_on}
use Rattle.icu_decimal_reading.proofs.digits.last_run.Goals as goal

pub loop-character-init : goal.loop-character-init
loop-character-init c = (
  tt,
  tt,
  run_begins c.args.digits.now c.args.text.now _ _ c.utf8.text
      (ap chars_rest c.into_iter-character-iterator.ensures.into_iter_gives ∙ c.chars-character-items.ensures.rest) refl,
)

pub loop-character-preserved : goal.loop-character-preserved
loop-character-preserved c = (
  tt,
  tt,
  subst (λ run. IsCounted c.args.digits.now c.args.text.now (chars_rest c.next.new.self) run) (sym c.run_past-run.ensures)
      (run_goes_on c.args.digits.now c.args.text.now _ c.loop-character.run c.loop-character.invariant.2 c.in-Some.character _ c.is_some.result
      c.in-Some.ensures.steps.0 (c.is_some.ensures ∙ ap is_some c.value_of.ensures.value)),
)

pub returns : goal.returns
returns c = run_ends c.args.digits.now c.args.text.now _ _ c.loop-character.invariant.2 c.in-None.ensures.steps.0.0
