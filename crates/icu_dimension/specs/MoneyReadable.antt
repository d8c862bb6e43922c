-- Formatters of money whose texts determine the sign, the number and what stands around it.
use Rattle.std.specs.Prelude.{◌≡◌, ℕ, List, All, Contains, IfSome}
use Rattle.std.specs.Str.{chars}
use Rattle.fixed_decimal.specs.declared.signs.Sign.{Sign}
use Rattle.writeable.specs.Events.{characters}
use Rattle.icu_decimal.specs.Decimal.{DecimalFormat}
use Rattle.icu_decimal_readable.specs.Readable.{Surroundings, HasNoDigit, IsFreeOfDigits, IsReadable}
use Rattle.icu_dimension_data.specs.declared.affix_token.AffixToken.{AffixToken}
use Rattle.icu_dimension_data.specs.declared.affix_token.AffixToken.TheVariants.{Character}
use Rattle.icu_dimension_data.specs.Patterns.{Affixes, PatternText}
use Rattle.icu_dimension_data.specs.Resolved.{Signed, Texts, affixes_of}
use Rattle.icu_dimension_data.specs.Surrounding.{affix_events}
use Rattle.icu_dimension.specs.Money.{SignedFormat}

-- the characters that stand before and after numbers of a sign: signs, the symbol, the pattern's own, and spaces between
abbrev pub money_surroundings : Signed → Sign → Surroundings
money_surroundings patterns sign = record {
  before = characters (affix_events patterns.texts (affixes_of patterns sign).before);
  after = characters (affix_events patterns.texts (affixes_of patterns sign).after);
}

-- none of them is one of the digits, whatever the sign
abbrev pub HasNoDigitAround : List ℕ → Signed → Type 0
HasNoDigitAround digits patterns = (s : Sign) → IsFreeOfDigits digits (money_surroundings patterns s)

-- no two signs have the same characters before the number and the same after it
abbrev pub SignsDifferAround : Signed → Type 0
SignsDifferAround patterns = (s t : Sign) → money_surroundings patterns s ≡ money_surroundings patterns t → s ≡ t

-- What stands around numbers with these digits is readable: no digit is in it, and it determines the sign.
pub record IsReadableAround (digits : List ℕ) (patterns : Signed) : Type 0 where
  pub free : HasNoDigitAround digits patterns
  pub sign_distinct : SignsDifferAround patterns

-- Money by this formatter, or percents, is readable: its numbers are, and what stands around them is.
pub record IsReadableMoney (f : SignedFormat DecimalFormat) : Type 0 where
  pub numbers_readable : IsReadable f.formatter.symbols.strings f.formatter.digits
  pub around_readable : IsReadableAround f.formatter.digits f.patterns

-- ---- what makes `HasNoDigitAround` true of the patterns that `resolve` makes

-- neither the symbol nor a sign nor the percent sign has one of the digits
pub record TextsHaveNoDigit (digits : List ℕ) (texts : Texts) : Type 0 where
  pub symbol_free : HasNoDigit digits (chars texts.currency)
  pub minus_free : HasNoDigit digits (chars texts.minus_sign)
  pub plus_free : HasNoDigit digits (chars texts.plus_sign)
  pub percent_free : HasNoDigit digits (chars texts.percent_sign)

-- a character that stands for itself isn't one of the digits
abbrev pub StandsForNoDigit : List ℕ → AffixToken → Type 0
StandsForNoDigit digits (Character c) = ¬ (Contains digits c)
StandsForNoDigit digits _ = Unit {0}

-- no such character stands before the number or after it
pub record AffixesHaveNoDigit (digits : List ℕ) (a : Affixes) : Type 0 where
  pub before_free : All (StandsForNoDigit digits) a.before
  pub after_free : All (StandsForNoDigit digits) a.after

-- nor in either subpattern of a pattern
pub record PatternHasNoDigit (digits : List ℕ) (p : PatternText) : Type 0 where
  pub first_free : AffixesHaveNoDigit digits p.first
  pub second_free : IfSome p.second (AffixesHaveNoDigit digits)
