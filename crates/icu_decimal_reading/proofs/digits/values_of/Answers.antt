use Rattle.std.proofs.Common.{sym, ap, ◌∙◌, subst}
use Rattle.std.specs.Str.Iter.{chars_rest}
use Rattle.icu_decimal_reading.proofs.Rests.{AreFound, found_begins, found_ends, found_next}
use Rattle.icu_decimal_reading.proofs.digits.values_of.Goals as goal

pub loop-character-init : goal.loop-character-init
loop-character-init c = (
  tt,
  tt,
  found_begins c.args.digits.now c.args.text.now _ _ c.utf8.text
      (ap chars_rest c.into_iter-character-iterator.ensures.into_iter_gives ∙ c.chars-character-items.ensures.rest) c.new-values.ensures.items,
)

pub loop-character-preserved : goal.loop-character-preserved
loop-character-preserved c = (
  tt,
  tt,
  subst (λ found. AreFound c.args.digits.now c.args.text.now (chars_rest c.next.new.self) found) (sym c.in_ok-push_value.ensures)
      (found_next c.args.digits.now c.args.text.now _ c.loop-character.values.items c.loop-character.invariant.2 c.in-Some.character _
      c.in-Some.ensures.steps.0 c.value_of.result c.value_of.ensures.value c.value_of.ensures.below_ten),
)

pub returns-clause-values : goal.returns-clause-values
returns-clause-values c = found_ends c.args.digits.now c.args.text.now _ _ c.loop-character.invariant.2 c.in-None.ensures.steps.0.0
