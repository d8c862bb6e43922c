-- What holds of the nearest compact numbers and of what is displayed; each is the contract of a function of `laws`.
use Rattle.std.specs.Prelude.{◌≡◌, ◌↔◌, ℕ, ◌^◌, ◌<◌, ◌≤◌, List, Option, pos}
use Rattle.std.specs.Int.{int_max}
use Rattle.fixed_decimal.specs.declared.signs.Sign.{Sign}
use Rattle.fixed_decimal.specs.Size.{magnitude_place, magnitude, size}
use Rattle.fixed_decimal.specs.Unsigned.{Unsigned, high}
use Rattle.writeable.specs.Events.{Event, without_parts, text_of}
use Rattle.icu_decimal_data.specs.CompactTable.{TableEntry, IsCompactTable}
use Rattle.icu_decimal.specs.CompactFormat.{CompactFormat, IsCompactFormat, exponent_needed, events_with_exponent}
use Rattle.icu_decimal.specs.CompactNumber.{IsCompactNumber, IsNearestCompact, ShowsPastLimits, rounding_place_for}
use Rattle.icu_decimal.specs.RoundedAt.{IsRoundedAt}
use Rattle.icu_decimal.specs.Decomposed.{IsDecomposed}

-- for every list of entries each size has a nearest compact number, and no other one
abbrev pub OneCompactNumberIsNearest : Type 0
OneCompactNumberIsNearest = (table : List TableEntry) (x : ℕ) →
    (y : ℕ) × IsNearestCompact table x y × ((z : ℕ) → IsNearestCompact table x z → z ≡ y)

-- the nearest compact number of a size, among those of all magnitudes, is just the nearest multiple of ten to the rounding
-- place of the size's own magnitude, the even one of two equally near
abbrev pub NearestIsRounded : Type 0
NearestIsRounded = (table : List TableEntry) (x y : ℕ) → IsNearestCompact table x y ↔ IsRoundedAt (rounding_place_for table (magnitude_place x)) x y

-- what is displayed of a decimal is one: of any two the sizes, the entries and the significands agree
abbrev pub DecomposedIsOne : Type 0
DecomposedIsOne = (table : List TableEntry) (d : Unsigned) (y z : ℕ) (entry other : Option TableEntry) (significand another : Unsigned)
    → IsDecomposed table d y entry significand → IsDecomposed table d z other another → (y ≡ z) × (entry ≡ other) × (significand ≡ another)

-- of two sizes the smaller never has the larger nearest compact number
abbrev pub NearestKeepsOrder : Type 0
NearestKeepsOrder = (table : List TableEntry) (x x' y y' : ℕ) → x < x' → IsNearestCompact table x y → IsNearestCompact table x' y' → y ≤ y'

-- a size other than zero is shown as the power of ten of its magnitude at least, so never as zero
abbrev pub MagnitudeIsShown : Type 0
MagnitudeIsShown = (table : List TableEntry) (x y : ℕ) → 0 < x → IsNearestCompact table x y → 10 ^ magnitude_place x ≤ y

-- a compact number is its own nearest one, and no other is
abbrev pub CompactNumberIsItsNearest : Type 0
CompactNumberIsItsNearest = (table : List TableEntry) (x y : ℕ) → IsCompactNumber table x → IsNearestCompact table x y ↔ (y ≡ x)

-- without leading padding: the greatest power that is written is that of the first digit that isn't 0, or power 0 where
-- that one is lower
abbrev pub IsUnpadded : Unsigned → Type 0
IsUnpadded d = high d ≡ int_max (pos 0) (magnitude (size d))

-- `format` writes these events for the decimal, with a significand and an exponent, shown as this size by this entry; and
-- it writes nothing else for it
pub record IsWrittenAlone (format : CompactFormat) (sign : Sign) (d significand : Unsigned) (exponent : ℕ) (events : List Event) (shown : ℕ)
    (entry : Option TableEntry) : Type 0 where
  pub written : IsCompactFormat format sign d significand exponent events
  pub alone : (other : Unsigned) (another : ℕ) (others : List Event) (is : IsCompactFormat format sign d other another others)
      → (is.shown ≡ shown) × (is.entry ≡ entry) × (other ≡ significand) × (another ≡ exponent) × (others ≡ events)

-- What `format` writes of d is all that it writes of a decimal of the same sign whose size is the shown one: the size, the
-- entry, the significand, the exponent and the events. And that decimal's nearest compact number is past the limits only
-- where that of d is.
pub record IsShownAgain (format : CompactFormat) (sign : Sign) (d again : Unsigned) : Type 0 where
  pub alike : (significand : Unsigned) (exponent : ℕ) (events : List Event) (first : IsCompactFormat format sign d significand exponent events)
      → size again ≡ first.shown → IsWrittenAlone format sign again significand exponent events first.shown first.entry
  pub within : (y : ℕ) → IsNearestCompact format.table (size d) y → size again ≡ y → ShowsPastLimits format.table (size again) →
      ShowsPastLimits format.table (size d)

-- `format_with_exponent` accepts a significand, with a sign, and an exponent, and writes the characters of the events
pub record IsFormattedAlike (format : CompactFormat) (sign : Sign) (significand : Unsigned) (exponent : ℕ) (events : List Event) : Type 0 where
  pub accepted : exponent ≡ exponent_needed format significand exponent
  pub characters_are : without_parts (events_with_exponent format sign significand exponent) ≡ without_parts events
  pub text_is : text_of (events_with_exponent format sign significand exponent) ≡ text_of events

-- for every table, whatever `format` writes of a decimal, its significand and its exponent are given alike
abbrev pub ShownIsAccepted : Type 0
ShownIsAccepted = (format : CompactFormat) (sign : Sign) (d significand : Unsigned) (exponent : ℕ) (events : List Event)
    → IsCompactTable format.table → IsCompactFormat format sign d significand exponent events → IsFormattedAlike format sign significand exponent events
