-- Entries of the compact patterns of money.
use Rattle.std.specs.Prelude.{ℕ, ◌+◌, ◌==◌, ◌&&◌, Bool, not, List, [], ◌∷◌, Option, Some, None, Result, Ok, nat_eq, nat_lt}
use Rattle.std.specs.Prelude.{if◌then◌else◌}
use Rattle.std.specs.Cmp.Lexicographic.{pointwise}
use Rattle.serde_json.specs.Data.{Data}
use Rattle.icu_decimal_data.specs.CompactTable.{shift_limit}
use Rattle.icu_dimension_tables.specs.ByCategory.{elements_read}
use Rattle.icu_dimension_tables.specs.MoneyPattern.{money_pattern_of}
use Rattle.icu_dimension_data.specs.declared.compact_rows.CompactRow.{CompactRow}
use Rattle.icu_plurals.specs.Elements.{same_elements, without_explicit_one}
use Rattle.icu_table_entries.specs.Named.{NamedEntry, identifier_from, refused}
use Rattle.icu_table_entries.specs.Reading.{◌>>=◌, list_at, object_in, optional_at, text_at, text_in}
use Rattle.icu_table_entries.specs.declared.error.EntryFault.TheVariants.{ExponentsFall, ExponentAboveType, TooManyZeros, RepeatedPatterns}
use Rattle.icu_table_entries.specs.declared.error.Key.TheVariants.{Locale, System, Patterns}
use Rattle.icu_table_entries.specs.declared.error.Position.{Position}
use Rattle.icu_table_entries.specs.declared.error.TableError.{TableError}
use Rattle.icu_tables.specs.Compact.{listed_entries_in}
use Rattle.icu_tables.specs.declared.compact.ListedEntry.{ListedEntry}

-- an exponent that isn't below the one before it, nor above its type, nor more than 15 below it
unfoldable pub exponent_of : Position → ℕ → ℕ → ℕ → Result ℕ TableError
exponent_of position before log10_type exponent =
    if nat_lt exponent before then refused position ExponentsFall
    else if nat_lt log10_type exponent then refused position ExponentAboveType
    else if nat_lt (exponent + shift_limit) log10_type then refused position TooManyZeros
    else Ok exponent

-- a row of what an entry gives: its exponent is judged by the one before it, and then its texts, each a pattern of money
unfoldable pub compact_row_of : Position → ℕ → ListedEntry → Result CompactRow TableError
compact_row_of position before e = do
  exponent ← exponent_of position before e.log10_type e.exponent
  patterns ← elements_read money_pattern_of position e.texts
  Ok (record { log10_type = e.log10_type; exponent = exponent; patterns = patterns })

-- each row in turn
unfoldable pub compact_rows_of : Position → ℕ → List ListedEntry → Result (List CompactRow) TableError
compact_rows_of position before [] = Ok []
compact_rows_of position before (e ∷ es) = do
  row ← compact_row_of position before e
  rows ← compact_rows_of position row.exponent es
  Ok (row ∷ rows)

-- an entry has another exponent than the one before it, and the same texts, that one's text for exactly one taken away
abbrev pub repeats : ListedEntry → ListedEntry → Bool
repeats before e =
    not (before.exponent == e.exponent) && same_elements (pointwise nat_eq) (without_explicit_one before.texts) e.texts

-- the type of the first entry that repeats the one before it so
abbrev pub repeated_behind : ListedEntry → List ListedEntry → Option ℕ
repeated_behind before [] = None
repeated_behind before (e ∷ es) = if repeats before e then Some e.log10_type else repeated_behind e es

abbrev pub first_repeated : List ListedEntry → Option ℕ
first_repeated [] = None
first_repeated (e ∷ es) = repeated_behind e es

-- the rows, unless a type repeats the one before it
abbrev pub unless_repeated : Position → Option ℕ → List CompactRow → Result (List CompactRow) TableError
unless_repeated position None rows = Ok rows
unless_repeated position (Some log10_type) rows = refused position (RepeatedPatterns log10_type)

-- an entry: first the kinds of all its fields, then its name, then row by row, and then that no type repeats the one
-- before it
unfoldable pub currency_compact_at : Position → Data → Result (NamedEntry (List CompactRow)) TableError
currency_compact_at position d = do
  d ← object_in position.key d
  locale ← text_at Locale d
  system ← optional_at (text_in System) System d
  values ← list_at Patterns d
  listed ← listed_entries_in None values
  identifier ← identifier_from position locale system
  rows ← compact_rows_of position 0 listed
  content ← unless_repeated position (first_repeated listed) rows
  Ok (record { identifier = identifier; content = content })
