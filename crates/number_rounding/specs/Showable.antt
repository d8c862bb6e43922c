-- Showable sizes: the multiples of the unit of their own magnitude, by a precision and a compact table, and which of them
-- is taken for a size. Without compact notation the table has no entries.
use Rattle.std.specs.Prelude.{◌≡◌, ℕ, ◌-◌, ◌*◌, ◌^◌, ◌≤◌, ◌⊎◌, List, [], pos, Bool}
use Rattle.fixed_decimal.specs.declared.modes.UnsignedRoundingMode.{UnsignedRoundingMode}
use Rattle.fixed_decimal.specs.declared.modes.SignedRoundingMode.{SignedRoundingMode}
use Rattle.fixed_decimal.specs.Size.{magnitude_place, ten_to}
use Rattle.fixed_decimal.specs.Nearest.{IsMultiple}
use Rattle.fixed_decimal.specs.Modes.{IsTaken, size_mode}
use Rattle.icu_decimal_data.specs.CompactTable.{TableEntry, IsCompactTable, exponent_for}
use Rattle.skeleton_settings.specs.declared.settings.Precision.{Precision}
use Rattle.number_rounding.specs.Steps.{step, DividesOne}

-- the unit of the magnitude at a place: the step of the significand's magnitude, times ten to the exponent
abbrev pub unit_at : Precision → List TableEntry → ℕ → ℕ
unit_at precision table m = step precision (m - exponent_for table m) * 10 ^ exponent_for table m

-- a size is showable if it is a multiple of the unit of its own magnitude; 0 is a multiple of every unit
abbrev pub IsShowable : Precision → List TableEntry → ℕ → Type 0
IsShowable precision table z = IsMultiple (unit_at precision table (magnitude_place z)) z

-- y is what a mode of sizes takes of the showable sizes around x; of two equally near the even one is counted in the unit
-- of x's magnitude
abbrev pub IsShownSize : Precision → List TableEntry → UnsignedRoundingMode → ℕ → ℕ → Type 0
IsShownSize precision table mode x y = IsTaken (IsShowable precision table) mode (unit_at precision table (magnitude_place x)) x y

-- the same by a mode of numbers with or without a minus
abbrev pub IsShownBy : Precision → List TableEntry → SignedRoundingMode → Bool → ℕ → ℕ → Type 0
IsShownBy precision table mode minus x y = IsShownSize precision table (size_mode mode minus) x y

-- the size that is shown for x is ten to the power 32768 or more
abbrev pub IsShownPastLimits : Precision → List TableEntry → SignedRoundingMode → Bool → ℕ → Type 0
IsShownPastLimits precision table mode minus x = (y : ℕ) × IsShownBy precision table mode minus x y × (ten_to (pos 32768) ≤ y)

-- A precision fits a table: the table is a compact one, and 1 is a multiple of an increment unless the table has no entries.
pub record FitsTable (precision : Precision) (table : List TableEntry) : Type 0 where
  pub is_table : IsCompactTable table
  pub divides : (table ≡ []) ⊎ DividesOne precision
