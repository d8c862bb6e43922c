-- The characters that stand around numbers of one sign.
use Rattle.std.specs.Prelude.{◌≡◌, ℕ, List, [], All, Contains}
use Rattle.writeable.specs.Events.{characters}
use Rattle.icu_dimension_data.specs.declared.affix_token.AffixToken.{AffixToken}
use Rattle.icu_dimension_data.specs.declared.affix_token.AffixToken.TheVariants.{Character, CurrencySymbol, MinusSign, PlusSign, PercentSign, PerMilleSign}
use Rattle.icu_dimension_data.specs.Resolved.{Texts}
use Rattle.icu_dimension_data.specs.Surrounding.{SignedText, affix_events}

-- the characters of tokens, without parts
abbrev pub affix_characters : Texts → List AffixToken → List ℕ
affix_characters texts ts = characters (affix_events texts ts)

-- the text in the place of a token; a character that stands for itself has none
abbrev pub token_text : Texts → AffixToken → List ℕ
token_text texts (Character c) = []
token_text texts CurrencySymbol = texts.currency
token_text texts MinusSign = texts.minus_sign
token_text texts PlusSign = texts.plus_sign
token_text texts PercentSign = texts.percent_sign
token_text texts PerMilleSign = texts.percent_sign

-- Two patterns have the same characters before the number, and the same after it.
pub record HaveSameCharacters (p q : SignedText) : Type 0 where
  pub before_same : affix_characters p.texts p.affixes.before ≡ affix_characters q.texts q.affixes.before
  pub after_same : affix_characters p.texts p.affixes.after ≡ affix_characters q.texts q.affixes.after

-- None of the listed characters stands before the number or after it.
pub record HasNoneOf (listed : List ℕ) (p : SignedText) : Type 0 where
  pub before_free : All (λ c. ¬ (Contains listed c)) (affix_characters p.texts p.affixes.before)
  pub after_free : All (λ c. ¬ (Contains listed c)) (affix_characters p.texts p.affixes.after)
