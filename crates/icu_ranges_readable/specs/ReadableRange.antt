-- Ranges whose texts determine both numbers.
use Rattle.std.specs.Prelude.{◌≡◌, ◌≢◌, ℕ, List, true, false}
use Rattle.std.specs.Str.{chars}
use Rattle.fixed_decimal.specs.declared.signs.Sign.{Sign}
use Rattle.fixed_decimal.specs.declared.signs.Sign.TheVariants.{Negative, Positive, None as NoSign}
use Rattle.icu_decimal.specs.Decimal.{DecimalFormat}
use Rattle.icu_decimal_readable.specs.Readable.{IsReadable, Surroundings, affixes}
use Rattle.icu_dimension.specs.Money.{SignedFormat}
use Rattle.icu_dimension.specs.MoneyReadable.{HasNoDigitAround, money_surroundings}
use Rattle.icu_ranges.specs.Separator.{Separator}
use Rattle.icu_ranges_readable.specs.Characters.{begins_visibly, begins_with_space, has, has_any, has_mark}

-- A separator of ranges stands apart from numbers: these are readable, no space and no character of the separator is a digit, and the
-- separator has a mark.
pub record IsApart (f : DecimalFormat) (separator : List ℕ) : Type 0 where
  pub readable : IsReadable f.symbols.strings f.digits
  pub space_free : has 32 f.digits ≡ false
  pub separator_free : has_any f.digits separator ≡ false
  pub marked : has_mark f.symbols.strings separator ≡ true

-- texts before numbers without a sign, with a minus and with a plus tell the sign, also behind a separator with or without a space:
-- those of minus and plus have a character, none begins with a space, and they differ
pub record TellSigns (none minus plus : List ℕ) : Type 0 where
  pub none_begins : begins_with_space none ≡ false
  pub minus_begins : begins_visibly minus ≡ true
  pub plus_begins : begins_visibly plus ≡ true
  pub minus_differs : none ≢ minus
  pub plus_differs : none ≢ plus
  pub differ : minus ≢ plus

-- what stands before numbers tells their sign
abbrev pub SignsStandBefore : (Sign → Surroundings) → Type 0
SignsStandBefore around = TellSigns (around NoSign).before (around Negative).before (around Positive).before

-- Ranges with this separator are readable: it stands apart from numbers, and their affixes tell their sign.
pub record IsReadableRange (f : DecimalFormat) (separator : Separator) : Type 0 where
  pub apart : IsApart f (chars separator.text)
  pub signs_before : SignsStandBefore (affixes f.symbols.strings)

-- Ranges of amounts with this separator are readable: it stands apart from numbers, no digit stands around amounts, and what stands
-- before them tells their sign.
pub record IsReadableAmountRange (f : SignedFormat DecimalFormat) (separator : Separator) : Type 0 where
  pub apart : IsApart f.formatter (chars separator.text)
  pub around_free : HasNoDigitAround f.formatter.digits f.patterns
  pub signs_before : SignsStandBefore (money_surroundings f.patterns)
