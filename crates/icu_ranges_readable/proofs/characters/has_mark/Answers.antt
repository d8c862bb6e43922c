use Rattle.std.proofs.Common.{chars, refl, sym, ap, ◌∙◌, ◌||◌}
use Rattle.std.specs.Str.Iter.{chars_rest}
use Rattle.icu_ranges_readable.specs.Characters.{has_mark}
use Rattle.icu_ranges_readable.proofs.CharacterSteps.{begins, ends, found, goes_on}
use Rattle.icu_ranges_readable.proofs.characters.has_mark.Goals as goal

pub loop-character-init : goal.loop-character-init
loop-character-init c = (
  tt,
  tt,
  begins (has_mark c.args.symbols.now.strings) c.args.text.now _ c.utf8.text
      (ap chars_rest c.into_iter-character-iterator.ensures.into_iter_gives ∙ c.chars-character-items.ensures.rest),
)

pub loop-character-preserved : goal.loop-character-preserved
loop-character-preserved c = (
  tt,
  tt,
  goes_on (has_mark c.args.symbols.now.strings) c.args.text.now _ _ c.in-Some.character c.loop-character.invariant.2 c.in-Some.ensures.steps.0
      (ap (λ b. b || has_mark c.args.symbols.now.strings (chars (chars_rest c.next.new.self)))
      (sym c.is_mark.ensures ∙ c.if-is_mark.false)),
)

pub returns-then-is_mark : goal.returns-then-is_mark
returns-then-is_mark c =
    found (has_mark c.args.symbols.now.strings) c.args.text.now _ _ c.in-Some.character c.loop-character.invariant.2 c.in-Some.ensures.steps.0
    (ap (λ b. b || has_mark c.args.symbols.now.strings (chars (chars_rest c.next.new.self)))
    (sym c.is_mark.ensures ∙ c.if-is_mark.true))

pub returns : goal.returns
returns c = ends (has_mark c.args.symbols.now.strings) c.args.text.now _ c.loop-character.invariant.2 c.in-None.ensures.steps.0.0 refl
