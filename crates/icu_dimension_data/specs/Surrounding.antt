-- What a pattern writes around a value.
use Rattle.std.specs.Prelude.{ℕ, List, [], ◌∷◌, ◌++◌, codes}
use Rattle.writeable.specs.Events.{Event, text_events}
use Rattle.writeable.specs.Events.Event.{Char, Open, Close}
use Rattle.icu_dimension_data.specs.declared.affix_token.AffixToken.{AffixToken}
use Rattle.icu_dimension_data.specs.declared.affix_token.AffixToken.TheVariants.{Character, CurrencySymbol, MinusSign, PlusSign, PercentSign, PerMilleSign}
use Rattle.icu_dimension_data.specs.Patterns.{Affixes}
use Rattle.icu_dimension_data.specs.Resolved.{Texts}

-- what stands around numbers of one sign, with the texts in it
pub record SignedText : Type 0 where
  pub affixes : Affixes
  pub texts : Texts

-- a value, and what stands around it
pub record SurroundedValue (W : Type 0) : Type 0 where
  pub pattern : SignedText
  pub value : W

-- a text in a part
abbrev pub in_part : List ℕ → List ℕ → List ℕ → List Event
in_part category value text = Open category value ∷ (text_events text ++ Close ∷ [])

-- a token: a character as it is, or a text in its part
abbrev pub token_events : Texts → AffixToken → List Event
token_events texts (Character c) = Char c ∷ []
token_events texts CurrencySymbol = in_part (codes "dimension") (codes "currency") texts.currency
token_events texts MinusSign = in_part (codes "decimal") (codes "minusSign") texts.minus_sign
token_events texts PlusSign = in_part (codes "decimal") (codes "plusSign") texts.plus_sign
token_events texts PercentSign = in_part (codes "dimension") (codes "percentSign") texts.percent_sign
token_events texts PerMilleSign = in_part (codes "dimension") (codes "perMilleSign") texts.percent_sign

-- tokens one after the other
abbrev pub affix_events : Texts → List AffixToken → List Event
affix_events texts [] = []
affix_events texts (t ∷ ts) = token_events texts t ++ affix_events texts ts

-- a value's events with a pattern around them
abbrev pub surrounded : SignedText → List Event → List Event
surrounded p es = affix_events p.texts p.affixes.before ++ (es ++ affix_events p.texts p.affixes.after)
