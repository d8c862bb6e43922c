use Rattle.std.proofs.Common.{refl, sym, ap, ◌∙◌, subst, ◌+◌}
use Rattle.std.specs.Str.Iter.{chars_rest}
use Rattle.icu_decimal_reading.proofs.Rests.{AreAlike, alike_begins, alike_differs, alike_ends, alike_ends_other, alike_goes_on}
use Rattle.icu_decimal_reading.proofs.alike.bytes_alike.Goals as goal

pub loop-character-init : goal.loop-character-init
loop-character-init c = (
  tt,
  tt,
  alike_begins c.args.one.now c.args.other.now _ _ _ c.utf8.one c.utf8.other
      (ap chars_rest c.into_iter-character-iterator.ensures.into_iter_gives ∙ c.chars-character-items.ensures.rest) c.chars-others.ensures.rest refl,
)

pub returns-in_default : goal.returns-in_default
returns-in_default c =
    alike_ends_other c.args.one.now c.args.other.now _ _ _ c.loop-character.invariant.2 c.in-Some.character _ c.in-Some.ensures.steps.0
    c.in_default.ensures.steps.0.0

pub returns-then-character-met : goal.returns-then-character-met
returns-then-character-met c =
    alike_differs c.args.one.now c.args.other.now _ _ _ c.loop-character.invariant.2 c.in-Some.character _ c.in-Some.ensures.steps.0
    c.in-Some-next.met _ c.in-Some-next.ensures.steps.0 c.if-character-met.true

pub loop-character-preserved : goal.loop-character-preserved
loop-character-preserved c = (
  tt,
  tt,
  subst (λ n. AreAlike c.args.one.now c.args.other.now (chars_rest c.next.new.self) (chars_rest c.next-in-loop-character.new.self) (c.loop-character.byte + n))
      (sym c.len_utf8-byte.ensures.value)
      (alike_goes_on c.args.one.now c.args.other.now _ _ _ c.loop-character.invariant.2 c.in-Some.character _ c.in-Some.ensures.steps.0
      c.in-Some-next.met _ c.in-Some-next.ensures.steps.0 c.if-character-met.false),
)

pub returns : goal.returns
returns c = alike_ends c.args.one.now c.args.other.now _ _ _ c.loop-character.invariant.2 c.in-None.ensures.steps.0.0
