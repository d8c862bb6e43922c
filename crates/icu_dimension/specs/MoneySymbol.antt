-- Patterns of money, and symbols of currencies, with which a text determines the symbol, too.
use Rattle.std.specs.Prelude.{◌≡◌, ◌≢◌, ◌⊎◌, ◌==◌, ℕ, List, [], Some, All, Contains, IfSome}
use Rattle.std.specs.List.{filter, list_any}
use Rattle.std.specs.Str.{chars}
use Rattle.fixed_decimal.specs.declared.signs.Sign.{Sign}
use Rattle.icu_decimal_readable.specs.Readable.{Surroundings, HasNoDigit}
use Rattle.icu_dimension_data.specs.declared.affix_token.AffixToken.TheVariants.{CurrencySymbol}
use Rattle.icu_dimension_data.specs.Patterns.{Affixes, PatternText}
use Rattle.icu_dimension_data.specs.Resolved.{Texts, first_character, last_character, resolved}
use Rattle.icu_dimension.specs.MoneyReadable.{PatternHasNoDigit, TextsHaveNoDigit, money_surroundings}

-- the signs of a locale, with the symbol of this currency
abbrev pub with_symbol : Texts → List ℕ → Texts
with_symbol texts currency = record {
  minus_sign = texts.minus_sign;
  plus_sign = texts.plus_sign;
  percent_sign = texts.percent_sign;
  currency = currency;
}

-- ---- what determines the symbol

-- its place stands before the number or after it
abbrev pub HasSymbolPlaceholder : Affixes → Type 0
HasSymbolPlaceholder a = Contains a.before CurrencySymbol ⊎ Contains a.after CurrencySymbol

-- each subpattern has it
pub record ShowsSymbol (p : PatternText) : Type 0 where
  pub first_shows : HasSymbolPlaceholder p.first
  pub second_shows : IfSome p.second HasSymbolPlaceholder

-- The symbol neither begins nor ends with U+00A0, which stands between the number and some symbols that don't.
pub record SymbolEndsInNoSpace (currency : List ℕ) : Type 0 where
  pub first_other : first_character currency ≢ Some 160
  pub last_other : last_character currency ≢ Some 160

-- ---- what determines the sign, whatever the symbols

-- what stands around numbers if the symbol is empty: signs, and the pattern's own characters
abbrev pub beside_symbol : List ℕ → PatternText → Texts → Sign → Surroundings
beside_symbol digits p texts sign = money_surroundings (resolved digits p (with_symbol texts [])) sign

-- those of the characters that are marks
abbrev pub marks_among : List ℕ → List ℕ → List ℕ
marks_among marks cs = filter (λ c. list_any (λ mark. c == mark) marks) cs

-- the marks before the number, and those after it
abbrev pub marks_around : List ℕ → Surroundings → Surroundings
marks_around marks a = record { before = marks_among marks a.before; after = marks_among marks a.after }

-- no two signs have the same marks beside the symbol
abbrev pub MarksTellSign : List ℕ → List ℕ → PatternText → Texts → Type 0
MarksTellSign digits marks p texts =
    (s t : Sign) → marks_around marks (beside_symbol digits p texts s) ≡ marks_around marks (beside_symbol digits p texts t) → s ≡ t

-- none of the characters is one of the marks
abbrev pub HasNoMark : List ℕ → List ℕ → Type 0
HasNoMark marks cs = All (λ c. ¬ (Contains marks c)) cs

-- ---- both

-- Money in this pattern, with the signs of these texts, determines symbols: each subpattern shows the symbol; marks, as `-`, `+`
-- and `(`, determine the sign, and U+00A0 is none of them; neither the pattern nor a sign has one of the digits.
pub record TellsSymbols (digits marks : List ℕ) (p : PatternText) (texts : Texts) : Type 0 where
  pub shown : ShowsSymbol p
  pub sign_distinct : MarksTellSign digits marks p texts
  pub space_no_mark : ¬ (Contains marks 160)
  pub pattern_free : PatternHasNoDigit digits p
  pub signs_free : TextsHaveNoDigit digits (with_symbol texts [])
  pub space_no_digit : ¬ (Contains digits 160)

-- It determines this symbol, which has none of the digits, none of the marks, and U+00A0 at neither end.
pub record IsDistinctSymbol (digits marks currency : List ℕ) : Type 0 where
  pub no_digit : HasNoDigit digits (chars currency)
  pub no_mark : HasNoMark marks (chars currency)
  pub no_space : SymbolEndsInNoSpace currency
