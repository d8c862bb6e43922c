-- Compact patterns of money as CLDR has them: rows of a type, an exponent and patterns, by rising types.
use Rattle.std.specs.Prelude.{ℕ, ◌<◌, List, [], ◌∷◌, Option, Some, None}
use Rattle.icu_dimension_data.specs.declared.compact_rows.CompactRow.{CompactRow}

-- a type is above the one before it, if there is one
abbrev pub IsAbove : Option ℕ → ℕ → Type 0
IsAbove None t = Unit {0}
IsAbove (Some before) t = before < t

-- the type of each row is above the one before it
abbrev pub RowsRise : Option ℕ → List CompactRow → Type 0
RowsRise before [] = Unit {0}
RowsRise before (row ∷ rows) = IsAbove before row.log10_type × RowsRise (Some row.log10_type) rows
