-- What two equal texts of money determine.
use Rattle.std.specs.Prelude.{◌≡◌, ℕ, List}
use Rattle.std.specs.Str.{IsUtf8}
use Rattle.fixed_decimal.specs.declared.signs.Sign.{Sign}
use Rattle.fixed_decimal.specs.Unsigned.{Unsigned}
use Rattle.icu_decimal.specs.Decimal.{DecimalFormat}
use Rattle.icu_decimal_readable.specs.Readable.{IsReadable}
use Rattle.icu_dimension_data.specs.Patterns.{PatternText}
use Rattle.icu_dimension_data.specs.Resolved.{Texts, resolved}
use Rattle.icu_dimension.specs.Money.{SignedFormat}
use Rattle.icu_dimension.specs.MoneySymbol.{IsDistinctSymbol, TellsSymbols, with_symbol}

-- money of a currency in a pattern, with the signs of these texts
abbrev pub money_of : DecimalFormat → PatternText → Texts → List ℕ → SignedFormat DecimalFormat
money_of f p texts currency = record { formatter = f; patterns = resolved f.digits p (with_symbol texts currency) }

-- readable numbers, a pattern that determines symbols, and two symbols that are determined
pub record TellsBoth (f : DecimalFormat) (marks : List ℕ) (p : PatternText) (texts : Texts) (one other : List ℕ) : Type 0 where
  pub readable : IsReadable f.symbols.strings f.digits
  pub tells : TellsSymbols f.digits marks p texts
  pub one_told : IsDistinctSymbol f.digits marks one
  pub other_told : IsDistinctSymbol f.digits marks other
  pub one_text : IsUtf8 one
  pub other_text : IsUtf8 other

-- two amounts have one sign, range, digits and symbol, whichever symbols these are, if both are determined
abbrev pub AreOneAmount : SignedFormat DecimalFormat → SignedFormat DecimalFormat → Sign → Sign → Unsigned → Unsigned → Type 0
AreOneAmount first second s t c d =
    (f : DecimalFormat) (marks : List ℕ) (p : PatternText) (texts : Texts) (one other : List ℕ) → TellsBoth f marks p texts one other
    → first ≡ money_of f p texts one → second ≡ money_of f p texts other → (s ≡ t) × (c ≡ d) × (one ≡ other)
