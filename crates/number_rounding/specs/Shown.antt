-- What is shown of a number: a size, the entry of a compact table, and a significand with its written digits.
use Rattle.std.specs.Prelude.{◌≡◌, ℕ, ◌*◌, ◌^◌, ◌<◌, ◌⊎◌, ◌%◌, ◌&&◌, ◌==◌, List, [], Bool, Option, None, Some}
use Rattle.std.specs.Prelude.{if◌then◌else◌, pos, ◌-ℤ◌}
use Rattle.std.specs.Borrow.{Bor}
use Rattle.std.specs.Int.{int_max}
use Rattle.fixed_decimal.specs.Size.{finest, size, magnitude}
use Rattle.fixed_decimal.specs.Padding.{IsExactWith}
use Rattle.fixed_decimal.specs.Modes.{IsLeastFrom}
use Rattle.fixed_decimal.specs.Unsigned.{Unsigned, IsUnsigned, high}
use Rattle.icu_decimal_data.specs.CompactTable.{TableEntry, exponent_of}
use Rattle.icu_decimal.specs.Decomposed.{decomposed_entry}
use Rattle.number_rounding.specs.declared.rounding.Rounding.{Rounding}
use Rattle.number_rounding.specs.Showable.{IsShownBy, IsShownPastLimits}
use Rattle.number_rounding.specs.LeastDigits.{least_digits}

-- the entries of a table, none without one
abbrev pub entries_of : Option (Bor (List TableEntry)) → List TableEntry
entries_of None = []
entries_of (Some table) = table.now

-- whether a size is a whole number
abbrev pub is_whole : ℕ → Bool
is_whole s = (s % 10 ^ finest) == 0

-- how many digits below power 0 a significand of a size has at least: none where zeros of a whole number are hidden
abbrev pub least_fraction_digits : Rounding → ℕ → ℕ
least_fraction_digits rounding s = if rounding.hides_zeros_of_whole && is_whole s then 0 else least_digits rounding.precision s

-- how many digits below power 0 it has: the least count, or as many more as write it exactly
abbrev pub IsFractionCount : Rounding → ℕ → ℕ → Type 0
IsFractionCount rounding s n = IsLeastFrom (IsExactWith s) (least_fraction_digits rounding s) n

-- A number of the size x, with or without a minus, is shown as the size y, by an entry or none, with a significand: the
-- entry is that of y's magnitude, and the significand times ten to its exponent is y. It has as many digits at power 0 and
-- above as the rounding wants at least, or as many more as it needs; and so below power 0.
pub record IsShown (rounding : Rounding) (table : List TableEntry) (minus : Bool) (x y : ℕ) (entry : Option TableEntry) (significand : Unsigned) : Type 0
  where
    pub taken : IsShownBy rounding.precision table rounding.mode minus x y
    pub entry_is : entry ≡ decomposed_entry table y
    pub scaled : size significand * 10 ^ exponent_of entry ≡ y
    pub is_decimal : IsUnsigned significand
    pub high_is : high significand ≡ int_max (int_max (pos 0) (pos rounding.integer_digits -ℤ pos 1)) (magnitude (size significand))
    pub scale_is : IsFractionCount rounding (size significand) significand.scale

-- What is to be shown has a power that no decimal has: the size is ten to the power 32768 or more, more digits than 32768
-- are wanted at power 0 and above, or the significand has more below power 0.
pub record HasTooManyBelow (rounding : Rounding) (table : List TableEntry) (minus : Bool) (x : ℕ) : Type 0 where
  pub y : ℕ
  pub s : ℕ
  pub count : ℕ
  pub taken : IsShownBy rounding.precision table rounding.mode minus x y
  pub scaled : s * 10 ^ exponent_of (decomposed_entry table y) ≡ y
  pub count_is : IsFractionCount rounding s count
  pub too_many : 32768 < count

abbrev pub ShowsPastLimits : Rounding → List TableEntry → Bool → ℕ → Type 0
ShowsPastLimits rounding table minus x =
    IsShownPastLimits rounding.precision table rounding.mode minus x ⊎ ((32768 < rounding.integer_digits) ⊎ HasTooManyBelow rounding table minus x)
