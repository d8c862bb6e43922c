use Rattle.std.proofs.Common.{◌≡◌, ◌∙◌, sym, ap, subst, ℕ, List, [], ◌∷◌, ◌++◌, chars}
use Rattle.std.specs.Str.{IsUtf8}
use Rattle.std.specs.Str.Iter.{chars_rest}
use Rattle.std.proofs.lemmas.Str.{IsUtf8-past_char}
use Rattle.icu_dimension_data.specs.Comparing.{affix_characters}
use Rattle.icu_dimension_data.proofs.TokenCharacters.{at_end, character_off, first_off, text_opened}
use Rattle.icu_dimension_data.proofs.comparing.AffixCharacters.next_character.Goals as goal

pub invariant_of-self : goal.invariant_of-self
invariant_of-self c =
    IsUtf8-past_char (chars_rest c.loop-character.self-inside.text) (chars_rest c.next.new.self) c.in-Some.character c.loop-character.invariant.utf8
    c.in-Some.ensures.steps.0

pub returns-in-Some : goal.returns-in-Some
returns-in-Some c =
    sym c.loop-character.invariant.left
    ∙ first_off (chars_rest c.loop-character.self-inside.text) (chars_rest c.next.new.self)
    (affix_characters c.loop-character.self-inside.texts.now c.loop-character.self-inside.tokens.now) c.in-Some.character
    c.loop-character.invariant.utf8 c.in-Some.ensures.steps.0

pub returns-in_err-token : goal.returns-in_err-token
returns-in_err-token c =
    let none : c.args.self.now ≡ [] =
    sym c.loop-character.invariant.left
    ∙ at_end c.loop-character.self-inside.texts.now (chars_rest c.loop-character.self-inside.text) c.loop-character.self-inside.tokens.now
    c.in_default.ensures.steps.0.0 c.in_err-token.ensures.cases in
    rw c.from_residual.ensures none

pub returns-in-Character : goal.returns-in-Character
returns-in-Character c =
    let same : chars_rest c.next.new.self ≡ chars_rest c.loop-character.self-inside.text = ap chars_rest c.in_default.ensures.steps.0.1 in
    sym c.loop-character.invariant.left
    ∙ character_off c.loop-character.self-inside.texts.now (chars_rest c.loop-character.self-inside.text) c.loop-character.self-inside.tokens.now
    c.in_ok-token.rest.now c.in_ok-token.token.now c.in-Character.character c.in_default.ensures.steps.0.0 c.in_ok-token.ensures.cases.0 c.in-Character.is
    ∙ ap (λ (l : List ℕ). c.in-Character.character ∷ (chars l ++ affix_characters c.loop-character.self-inside.texts.now c.in_ok-token.rest.now))
    (sym same)

pub loop-character-preserved : goal.loop-character-preserved
loop-character-preserved c =
    record {
      utf8 = subst IsUtf8 (sym c.chars-self-inside.ensures.rest) c.text_of_token.utf8;
      left = text_opened c.loop-character.self-inside.texts.now (chars_rest c.loop-character.self-inside.text) (chars_rest c.chars-self-inside.result)
          c.loop-character.self-inside.tokens.now c.in_ok-token.rest.now c.in_ok-token.token.now c.in_default.ensures.steps.0.0
          c.in_ok-token.ensures.cases.0 c.in_default-token.not-Character (c.chars-self-inside.ensures.rest ∙ c.text_of_token.ensures)
          ∙ c.loop-character.invariant.left;
    }
