-- Compact numbers: which sizes a compact table shows, and which of them is nearest to a size (ICU4X
-- `CompactDecimalFormatter`: "the nearest such compact number"; UTS 35 Part 3, Compact Number Formats). Magnitudes are
-- places, as that of a size.
use Rattle.std.specs.Prelude.{ℕ, ◌+◌, ◌-◌, ◌^◌, ◌≤◌, List, nat_lt, if◌then◌else◌, pos}
use Rattle.fixed_decimal.specs.Size.{finest, magnitude_place, ten_to}
use Rattle.fixed_decimal.specs.Nearest.{IsNearest, IsMultiple}
use Rattle.icu_decimal_data.specs.CompactTable.{TableEntry, exponent_for}

-- the place at which numbers of the magnitude at a place, with an exponent, are rounded: that of the exponent, where the
-- magnitude is above it, so that whole thousands or millions are shown; else the place below, so that two digits are
unfoldable pub rounding_place : ℕ → ℕ → ℕ
rounding_place exponent m = if nat_lt (exponent + finest) m then (exponent + finest) else (m - 1)

-- the rounding place of the magnitude at a place in a table
abbrev pub rounding_place_for : List TableEntry → ℕ → ℕ
rounding_place_for table m = rounding_place (exponent_for table m) m

-- A compact number: 0, or a multiple of ten to the rounding place of its own magnitude. 0 is a multiple of every unit.
abbrev pub IsCompactNumber : List TableEntry → ℕ → Type 0
IsCompactNumber table z = IsMultiple (10 ^ rounding_place_for table (magnitude_place z)) z

-- The compact number nearest to x, among those of all magnitudes. Of two equally near it is the even one, counted in the
-- unit of x's magnitude.
abbrev pub IsNearestCompact : List TableEntry → ℕ → ℕ → Type 0
IsNearestCompact table x y = IsNearest (IsCompactNumber table) (10 ^ rounding_place_for table (magnitude_place x)) x y

-- the nearest compact number is ten to the power 32768 or more
abbrev pub ShowsPastLimits : List TableEntry → ℕ → Type 0
ShowsPastLimits table x = (y : ℕ) × IsNearestCompact table x y × (ten_to (pos 32768) ≤ y)
