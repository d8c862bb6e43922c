-- Two formatters of money with the same numbers and no text in common: each text shows which of the two wrote it.
use Rattle.std.specs.Prelude.{◌≡◌, ◌≢◌, ℕ, List}
use Rattle.fixed_decimal.specs.declared.signs.Sign.{Sign}
use Rattle.fixed_decimal.specs.Unsigned.{Unsigned, IsUnsigned}
use Rattle.writeable.specs.Events.{characters, text_of}
use Rattle.icu_decimal.specs.Decimal.{DecimalFormat}
use Rattle.icu_decimal_readable.specs.Readable.{IsReadable}
use Rattle.icu_dimension_data.specs.Resolved.{Signed}
use Rattle.icu_dimension.specs.Money.{SignedFormat}
use Rattle.icu_dimension.specs.MoneyReadable.{HasNoDigitAround, money_surroundings}
use Rattle.icu_dimension.specs.MoneyLaws.{plain_money}

-- whatever the signs, what stands around numbers by the one differs from what stands around numbers by the other
abbrev pub DifferAround : Signed → Signed → Type 0
DifferAround p q = (s t : Sign) → money_surroundings p s ≢ money_surroundings q t

-- The two have the same numbers, which are readable; no digit stands around them, and what stands around them differs.
pub record AreToldApart (f g : SignedFormat DecimalFormat) : Type 0 where
  pub same_numbers : f.formatter ≡ g.formatter
  pub numbers_readable : IsReadable f.formatter.symbols.strings f.formatter.digits
  pub one_free : HasNoDigitAround f.formatter.digits f.patterns
  pub other_free : HasNoDigitAround f.formatter.digits g.patterns
  pub differ : DifferAround f.patterns g.patterns

-- Where two formatters are distinguished, what the one writes never has the characters of what the other writes.
abbrev pub ToldApartShareNoCharacters : Type 0
ToldApartShareNoCharacters = (f g : SignedFormat DecimalFormat) (s t : Sign) (c d : Unsigned) → AreToldApart f g → IsUnsigned c → IsUnsigned d
    → characters (plain_money f.formatter f.patterns s c) ≢ characters (plain_money g.formatter g.patterns t d)

-- No text of the one is a text of the other.
abbrev pub ToldApartShareNoText : Type 0
ToldApartShareNoText = (f g : SignedFormat DecimalFormat) (s t : Sign) (c d : Unsigned) (one other : List ℕ) → AreToldApart f g → IsUnsigned c
    → IsUnsigned d → one ≡ text_of (plain_money f.formatter f.patterns s c) → other ≡ text_of (plain_money g.formatter g.patterns t d)
    → one ≢ other
