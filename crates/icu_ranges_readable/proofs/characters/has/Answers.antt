use Rattle.std.proofs.Common.{chars, refl, ap, ◌∙◌, ◌||◌}
use Rattle.std.proofs.lemmas.Bool.{eq-eqb}
use Rattle.std.specs.Str.Iter.{chars_rest}
use Rattle.icu_ranges_readable.specs.Characters.{has}
use Rattle.icu_ranges_readable.proofs.CharacterSteps.{begins, differs, ends, found, goes_on}
use Rattle.icu_ranges_readable.proofs.characters.has.Goals as goal

pub loop-found-init : goal.loop-found-init
loop-found-init c = (
  tt,
  tt,
  begins (has c.args.character) c.args.text.now _ c.utf8.text
      (ap chars_rest c.into_iter-found-iterator.ensures.into_iter_gives ∙ c.chars-found-items.ensures.rest),
)

pub loop-found-preserved : goal.loop-found-preserved
loop-found-preserved c = (
  tt,
  tt,
  goes_on (has c.args.character) c.args.text.now _ _ c.in-Some.found c.loop-found.invariant.2 c.in-Some.ensures.steps.0
      (ap (λ b. b || has c.args.character (chars (chars_rest c.next.new.self)))
      (differs c.in-Some.found c.args.character c.if-found-character.false)),
)

pub returns-then-found-character : goal.returns-then-found-character
returns-then-found-character c =
    found (has c.args.character) c.args.text.now _ _ c.in-Some.found c.loop-found.invariant.2 c.in-Some.ensures.steps.0
    (ap (λ b. b || has c.args.character (chars (chars_rest c.next.new.self)))
    (eq-eqb c.in-Some.found c.args.character c.if-found-character.true))

pub returns : goal.returns
returns c = ends (has c.args.character) c.args.text.now _ c.loop-found.invariant.2 c.in-None.ensures.steps.0.0 refl
