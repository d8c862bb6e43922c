-- Compact tables, and what stands in them at a magnitude.
use Rattle.std.specs.Prelude.{ℕ, ◌+◌, ◌≤◌, ◌<◌, List, [], ◌∷◌, Option, Some, None, nat_le, nat_lt, if◌then◌else◌, find, All}
use Rattle.std.specs.Prelude.{AllPairs, count_by, slice_get, length}
use Rattle.std.specs.Option.{option_or, option_map_or}
use Rattle.fixed_decimal.specs.Size.{finest}
use Rattle.icu_plurals.specs.Elements.{Elements}
use Rattle.icu_pattern.specs.Patterns.{PatternText}

-- a pattern for exactly zero and exactly one, for each plural category that has its own, and for all other numbers
abbrev pub PatternElements : Type 0
PatternElements = Elements PatternText

-- An entry: a type, which is the power of ten at which it begins; its exponent, the power of ten that its patterns name;
-- and its patterns (UTS 35 Part 3, Compact Number Formats).
pub record TableEntry : Type 0 where
  pub log10_type : ℕ
  pub exponent : ℕ
  pub elements : PatternElements

-- the most that a type may be above its exponent
abbrev pub shift_limit : ℕ
shift_limit = 15

-- Types rise, exponents do not fall, no exponent is above its type, and none is more than 15 below it.
pub record IsCompactTable (table : List TableEntry) : Type 0 where
  pub types_rise : AllPairs (λ (e f : TableEntry). e.log10_type < f.log10_type) table
  pub exponents_never_fall : AllPairs (λ (e f : TableEntry). e.exponent ≤ f.exponent) table
  pub exponents_small : All (λ (e : TableEntry). e.exponent ≤ e.log10_type) table
  pub shifts_small : All (λ (e : TableEntry). e.log10_type ≤ e.exponent + shift_limit) table

-- the place of an entry's type, as that of a size's magnitude
abbrev pub type_place : TableEntry → ℕ
type_place e = e.log10_type + finest

-- the entry of the magnitude at a place: the last one whose type is not above it
unfoldable pub entry_for : List TableEntry → ℕ → Option TableEntry
entry_for [] m = None
entry_for (e ∷ es) m = option_or (entry_for es m) (if nat_le (type_place e) m then Some e else None)

-- the entry after that one, or the first where there is none: since types rise, the first above the magnitude
unfoldable pub next_entry : List TableEntry → ℕ → Option TableEntry
next_entry table m = find (λ e. nat_lt m (type_place e)) table

-- the exponent of an entry, and 0 where there is none
abbrev pub exponent_of : Option TableEntry → ℕ
exponent_of e = option_map_or (λ (e : TableEntry). e.exponent) e 0

-- the exponent of the magnitude at a place
abbrev pub exponent_for : List TableEntry → ℕ → ℕ
exponent_for table m = exponent_of (entry_for table m)

-- the type of an entry, and 0 where there is none
abbrev pub log10_type_of : Option TableEntry → ℕ
log10_type_of e = option_map_or (λ (e : TableEntry). e.log10_type) e 0

-- how many entries have a type that is not above the magnitude
abbrev pub reached : List TableEntry → ℕ → ℕ
reached table m = count_by (λ e. nat_le (type_place e) m) table

-- the entry at an index
abbrev pub entry_at : List TableEntry → Option ℕ → Option TableEntry
entry_at table None = None
entry_at table (Some i) = slice_get table i

-- an index of the table, or none
abbrev pub IsIndex : List TableEntry → Option ℕ → Type 0
IsIndex table None = Unit {0}
IsIndex table (Some i) = i < length table

-- the index after one, or the first where there is none
abbrev pub index_after : Option ℕ → ℕ
index_after None = 0
index_after (Some i) = i + 1
