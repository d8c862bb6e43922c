-- What a text of money or of a percent determines; each is the contract of a function of `laws`.
use Rattle.std.specs.Prelude.{◌≡◌, ℕ, List, Contains}
use Rattle.fixed_decimal.specs.declared.signs.Sign.{Sign}
use Rattle.fixed_decimal.specs.Unsigned.{Unsigned, IsUnsigned, IsWithinLimits}
use Rattle.fixed_decimal.specs.Size.{size}
use Rattle.writeable.specs.Events.{Event, characters, text_of}
use Rattle.icu_decimal.specs.Decimal.{DecimalFormat}
use Rattle.icu_decimal_interface.specs.Shown.{plain_shown}
use Rattle.icu_decimal_readable.specs.Readable.{IsReadable}
use Rattle.icu_dimension_data.specs.Patterns.{PatternText}
use Rattle.icu_dimension_data.specs.Resolved.{Signed, Texts, resolved}
use Rattle.icu_dimension.specs.Money.{SignedFormat, money_events}
use Rattle.icu_dimension.specs.Percent.{hundredfold}
use Rattle.icu_dimension.specs.MoneyReadable.{HasNoDigitAround, IsReadableMoney, PatternHasNoDigit, TextsHaveNoDigit, money_surroundings}

-- what is written for an amount over a plain formatter
abbrev pub plain_money : DecimalFormat → Signed → Sign → Unsigned → List Event
plain_money format patterns sign u = money_events patterns sign (plain_shown format u)

-- Two amounts that a readable formatter of money writes in the same characters are one: in sign, range and every digit.
abbrev pub MoneyTextTells : Type 0
MoneyTextTells = (f : SignedFormat DecimalFormat) (s t : Sign) (c d : Unsigned) → IsReadableMoney f → IsUnsigned c → IsUnsigned d
    → characters (plain_money f.formatter f.patterns s c) ≡ characters (plain_money f.formatter f.patterns t d) → (s ≡ t) × (c ≡ d)

-- Two texts that a readable formatter of money writes are equal only where the amounts are one.
abbrev pub EqualMoneyTextsTell : Type 0
EqualMoneyTextsTell = (f : SignedFormat DecimalFormat) (s t : Sign) (c d : Unsigned) (one other : List ℕ) → IsReadableMoney f → IsUnsigned c →
    IsUnsigned d
    → one ≡ text_of (plain_money f.formatter f.patterns s c) → other ≡ text_of (plain_money f.formatter f.patterns t d) → one ≡ other
    → (s ≡ t) × (c ≡ d)

-- Amounts in two currencies, or in the patterns of two locales, with the same numbers, which are readable, and without a
-- digit around them: equal characters mean equal digits and range, and the same characters before the number and after it.
abbrev pub MoneyTextTellsAround : Type 0
MoneyTextTellsAround = (f : DecimalFormat) (p q : Signed) (s t : Sign) (c d : Unsigned) → IsReadable f.symbols.strings f.digits
    → HasNoDigitAround f.digits p → HasNoDigitAround f.digits q → IsUnsigned c → IsUnsigned d
    → characters (plain_money f p s c) ≡ characters (plain_money f q t d) → (money_surroundings p s ≡ money_surroundings q t) × (c ≡ d)

-- So do equal texts.
abbrev pub EqualMoneyTextsTellAround : Type 0
EqualMoneyTextsTellAround = (f : DecimalFormat) (p q : Signed) (s t : Sign) (c d : Unsigned) (one other : List ℕ) →
    IsReadable f.symbols.strings f.digits → HasNoDigitAround f.digits p → HasNoDigitAround f.digits q → IsUnsigned c → IsUnsigned d
    → one ≡ text_of (plain_money f p s c) → other ≡ text_of (plain_money f q t d) → one ≡ other
    → (money_surroundings p s ≡ money_surroundings q t) × (c ≡ d)

-- No digit stands around numbers in the patterns that `resolve` makes for them, if neither the symbol and the other texts nor the
-- pattern's own characters have one, and U+00A0 isn't one.
abbrev pub NoDigitStandsAround : Type 0
NoDigitStandsAround = (digits : List ℕ) (pattern : PatternText) (texts : Texts) → TextsHaveNoDigit digits texts →
    PatternHasNoDigit digits pattern → ¬ (Contains digits 160) → HasNoDigitAround digits (resolved digits pattern texts)

-- Two percents that a readable formatter writes in the same characters have the same sign, and are a hundred times the
-- same size, in the same range and digits.
abbrev pub PercentTextTells : Type 0
PercentTextTells = (f : SignedFormat DecimalFormat) (s t : Sign) (c d : Unsigned) → IsReadableMoney f → IsUnsigned c → IsUnsigned d
    → IsWithinLimits (hundredfold c) → IsWithinLimits (hundredfold d)
    → characters (plain_money f.formatter f.patterns s (hundredfold c)) ≡ characters (plain_money f.formatter f.patterns t (hundredfold d))
    → (s ≡ t) × (hundredfold c ≡ hundredfold d) × (size c ≡ size d)

-- So have two percents with equal texts.
abbrev pub EqualPercentTextsTell : Type 0
EqualPercentTextsTell = (f : SignedFormat DecimalFormat) (s t : Sign) (c d : Unsigned) (one other : List ℕ) → IsReadableMoney f → IsUnsigned c →
    IsUnsigned d → IsWithinLimits (hundredfold c) → IsWithinLimits (hundredfold d)
    → one ≡ text_of (plain_money f.formatter f.patterns s (hundredfold c)) → other ≡ text_of (plain_money f.formatter f.patterns t (hundredfold d))
    → one ≡ other → (s ≡ t) × (hundredfold c ≡ hundredfold d) × (size c ≡ size d)
