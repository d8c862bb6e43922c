-- What a locale says about money: its patterns and the symbols of a currency, and the patterns that they make together.
use Rattle.std.specs.Prelude.{ℕ, List, [], codes}
use Rattle.icu_dimension_data.specs.Patterns.{PatternText}
use Rattle.icu_dimension_data.specs.Resolved.{Signed, Texts, resolved}
use Rattle.icu_dimension.specs.declared.options.CurrencyFormatterOptions.{CurrencyFormatterOptions}
use Rattle.icu_dimension.specs.declared.options.CurrencySign.{CurrencySign}
use Rattle.icu_dimension.specs.declared.options.CurrencySign.TheVariants.{Standard, Accounting}
use Rattle.icu_dimension.specs.declared.options.Width.{Width}
use Rattle.icu_dimension.specs.declared.options.Width.TheVariants.{Short, Narrow, IsoCode, Hidden}

-- the patterns of money, and the texts of the signs
pub record MoneyPatterns : Type 0 where
  pub standard : PatternText
  pub accounting : PatternText
  pub minus_sign : List ℕ
  pub plus_sign : List ℕ

-- the symbols of a currency
pub record SymbolTexts : Type 0 where
  pub short : List ℕ
  pub narrow : List ℕ

-- what a width has for the symbol of the currency with this code
abbrev pub symbol_of : SymbolTexts → List ℕ → Width → List ℕ
symbol_of s code Short = s.short
symbol_of s code Narrow = s.narrow
symbol_of s code IsoCode = code
symbol_of s code Hidden = []

-- the pattern of a sign
abbrev pub pattern_for : MoneyPatterns → CurrencySign → PatternText
pattern_for p Standard = p.standard
pattern_for p Accounting = p.accounting

-- the texts in a pattern of money
abbrev pub money_texts : MoneyPatterns → List ℕ → Texts
money_texts p symbol = record { minus_sign = p.minus_sign; plus_sign = p.plus_sign; percent_sign = codes "%"; currency = symbol }

-- the patterns of the three signs around numbers with these ten digits, with the symbol
abbrev pub money_patterns : List ℕ → MoneyPatterns → SymbolTexts → List ℕ → CurrencyFormatterOptions → Signed
money_patterns digits p s code options = resolved digits (pattern_for p options.sign) (money_texts p (symbol_of s code options.width))
