use Rattle.std.proofs.Common.{ap, ◌∙◌}
use Rattle.std.proofs.lemmas.Str.{IsUtf8-string_bytes}
use Rattle.std.specs.Str.Iter.{chars_rest}
use Rattle.std.specs.String.{string_bytes}
use Rattle.icu_ranges_readable.proofs.AmountFronts.{begins, ends, found, goes_on}
use Rattle.icu_ranges_readable.proofs.characters.text_until.Goals as goal

pub loop-found-init : goal.loop-found-init
loop-found-init c = (
  tt,
  tt,
  begins c.args.character c.args.text.now _ _ c.utf8.text
      (ap chars_rest c.into_iter-found-iterator.ensures.into_iter_gives ∙ c.chars-found-items.ensures.rest) c.new-front.ensures.bytes,
)

pub returns-then-found-character : goal.returns-then-found-character
returns-then-found-character c =
    found c.args.character c.args.text.now _ (string_bytes c.loop-found.front) _ c.in-Some.found c.loop-found.invariant.2 c.in-Some.ensures.steps.0
    c.if-found-character.true

pub loop-found-preserved : goal.loop-found-preserved
loop-found-preserved c = (
  tt,
  tt,
  goes_on c.args.character c.args.text.now _ (string_bytes c.loop-found.front) _ (string_bytes c.push.new.self) c.in-Some.found
      c.loop-found.invariant.2 c.in-Some.ensures.steps.0 c.if-found-character.false
      (IsUtf8-string_bytes c.loop-found.front) (IsUtf8-string_bytes c.push.new.self)
      c.in_ok-push.ensures.bytes,
)

pub returns : goal.returns
returns c = ends c.args.character c.args.text.now _ (string_bytes c.loop-found.front) c.loop-found.invariant.2 c.in-None.ensures.steps.0.0
