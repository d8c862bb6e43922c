-- What a readable text of a range determines; each is the contract of a function of `laws`.
use Rattle.std.specs.Prelude.{◌≡◌, ◌≢◌, ℕ, List, false}
use Rattle.std.specs.Str.{chars}
use Rattle.fixed_decimal.specs.Unsigned.{IsUnsigned}
use Rattle.writeable.specs.Events.{Event, characters, text_of}
use Rattle.icu_decimal.specs.Decimal.{DecimalFormat}
use Rattle.icu_decimal_interface.specs.Shown.{plain_shown}
use Rattle.icu_dimension.specs.Money.{SignedFormat}
use Rattle.icu_ranges.specs.declared.options.RangeIdentityFallback.TheVariants.{Approximately}
use Rattle.icu_ranges.specs.Around.{amounts_events}
use Rattle.icu_ranges.specs.Order.{Ends}
use Rattle.icu_ranges.specs.Ranges.{RangeStyle, numbers_events}
use Rattle.icu_ranges_readable.specs.Characters.{has_any}
use Rattle.icu_ranges_readable.specs.ReadableRange.{IsReadableAmountRange, IsReadableRange}

-- both ends are well formed, as all decimals are, whichever is above the other
pub record AreDecimals (p : Ends) : Type 0 where
  pub start : IsUnsigned p.start.absolute
  pub end : IsUnsigned p.end.absolute

-- no range is written with the approximately sign
abbrev pub IsExact : RangeStyle → Type 0
IsExact style = style.fallback ≢ Approximately

-- the approximately sign has no digit, if ranges are written with it
abbrev pub HasNoDigitInSign : DecimalFormat → RangeStyle → Type 0
HasNoDigitInSign f style = style.fallback ≡ Approximately → has_any f.digits (chars style.separator.approximately) ≡ false

-- what is written for two numbers over a plain formatter
abbrev pub plain_range : DecimalFormat → RangeStyle → Ends → List Event
plain_range f style p =
    numbers_events style f.symbols p.start.sign p.end.sign
    (record { first = plain_shown f p.start.absolute; second = plain_shown f p.end.absolute })

-- Two ranges that a readable formatter writes in the same characters have equal starts and equal ends: in sign, range and every digit.
abbrev pub RangeTextTellsBothEnds : Type 0
RangeTextTellsBothEnds = (f : DecimalFormat) (style : RangeStyle) (p q : Ends) → HasNoDigitInSign f style → IsReadableRange f style.separator
    → AreDecimals p → AreDecimals q → characters (plain_range f style p) ≡ characters (plain_range f style q) → p ≡ q

-- Two texts of ranges that a readable formatter writes are equal only where the ranges are.
abbrev pub EqualRangeTextsTell : Type 0
EqualRangeTextsTell = (f : DecimalFormat) (style : RangeStyle) (p q : Ends) (one other : List ℕ) → HasNoDigitInSign f style →
    IsReadableRange f style.separator → AreDecimals p → AreDecimals q
    → one ≡ text_of (plain_range f style p) → other ≡ text_of (plain_range f style q) → one ≡ other → p ≡ q

-- what is written for two amounts of money, or two numbers of percents, over a plain formatter
abbrev pub plain_amounts : SignedFormat DecimalFormat → RangeStyle → Ends → List Event
plain_amounts f style p =
    amounts_events style f.patterns p.start.sign p.end.sign
    (record { first = plain_shown f.formatter p.start.absolute; second = plain_shown f.formatter p.end.absolute })

-- Two ranges of amounts that are written in the same characters, and are readable, have equal starts and equal ends.
abbrev pub AmountRangeTextTellsBothEnds : Type 0
AmountRangeTextTellsBothEnds = (f : SignedFormat DecimalFormat) (style : RangeStyle) (p q : Ends) → IsExact style
    → IsReadableAmountRange f style.separator → AreDecimals p → AreDecimals q
    → characters (plain_amounts f style p) ≡ characters (plain_amounts f style q) → p ≡ q

-- Two texts of such ranges are equal only where the ranges are.
abbrev pub EqualAmountRangeTextsTell : Type 0
EqualAmountRangeTextsTell = (f : SignedFormat DecimalFormat) (style : RangeStyle) (p q : Ends) (one other : List ℕ) → IsExact style →
    IsReadableAmountRange f style.separator → AreDecimals p → AreDecimals q
    → one ≡ text_of (plain_amounts f style p) → other ≡ text_of (plain_amounts f style q) → one ≡ other → p ≡ q
