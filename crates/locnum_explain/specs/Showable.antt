-- The two values around a size that are shown at its magnitude, and that no compact number stands between them but themselves.
use Rattle.std.specs.Prelude.{ℕ, ◌+◌, ◌-◌, ◌%◌, ◌^◌, ◌<◌, List}
use Rattle.fixed_decimal.specs.Size.{magnitude_place}
use Rattle.icu_decimal_data.specs.CompactTable.{TableEntry}
use Rattle.icu_decimal.specs.CompactNumber.{IsCompactNumber, rounding_place_for}

-- the unit of x: ten to the rounding place of its magnitude
abbrev pub unit_of : List TableEntry → ℕ → ℕ
unit_of table x = 10 ^ rounding_place_for table (magnitude_place x)

-- the greatest multiple of its unit that is at most x
abbrev pub showable_below : List TableEntry → ℕ → ℕ
showable_below table x = x - x % unit_of table x

-- the multiple above it
abbrev pub showable_above : List TableEntry → ℕ → ℕ
showable_above table x = showable_below table x + unit_of table x

-- for each size other than 0: no compact number of any magnitude stands between the two
abbrev pub NothingBetween : Type 0
NothingBetween = (table : List TableEntry) (x z : ℕ) → 0 < x → IsCompactNumber table z → showable_below table x < z → ¬ (z < showable_above table x)
