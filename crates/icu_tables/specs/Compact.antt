-- Compact tables.
use Rattle.std.specs.Prelude.{ℕ, ◌<◌, List, [], ◌∷◌, Option, Some, None, Result, Ok, Err, nat_lt, if◌then◌else◌}
use Rattle.serde_json.specs.Data.{Data}
use Rattle.serde_json.specs.Written.{has_float}
use Rattle.icu_decimal_data.specs.CompactFaults.{fault_of}
use Rattle.icu_decimal_data.specs.CompactTable.{PatternElements, TableEntry}
use Rattle.icu_decimal_data.specs.Kept.{kept}
use Rattle.icu_decimal_data.specs.declared.error.CompactError.{CompactError}
use Rattle.icu_decimal_data.specs.declared.error.CompactError.TheVariants as compact
use Rattle.icu_table_entries.specs.PatternTexts.{Texts}
use Rattle.icu_tables.specs.declared.compact.ListedEntry.{ListedEntry}
use Rattle.icu_table_entries.specs.Named.{NamedEntry, refused, identifier_from}
use Rattle.icu_table_entries.specs.Reading.{◌>>=◌, object_in, optional_at, text_in, text_at, list_at, byte_in, triple_in}
use Rattle.icu_table_entries.specs.CategoryTexts.{category_texts_in, patterns_of, optional_patterns_of}
use Rattle.icu_table_entries.specs.declared.error.EntryFault.TheVariants.{ExponentsFall, ExponentAboveType, TooManyZeros, PatternsTooLarge}
use Rattle.icu_table_entries.specs.declared.error.Key.TheVariants.{Document, Locale, System, Patterns, Zero}
use Rattle.icu_table_entries.specs.declared.error.Position.{Position}
use Rattle.icu_table_entries.specs.declared.error.TableError.{TableError}
use Rattle.icu_table_entries.specs.declared.error.TableError.TheVariants.{Float, WrongKind, OutOfMemory}

-- a type is above the one before it
abbrev pub rises : Option ℕ → ℕ → Result ℕ TableError
rises None t = Ok t
rises (Some before) t = if nat_lt before t then Ok t else Err (WrongKind Patterns)

-- an entry: a list of its type, its exponent and its texts
unfoldable pub listed_entry_in : Option ℕ → Data → Result ListedEntry TableError
listed_entry_in before d = do
  triple ← triple_in Patterns d
  t ← byte_in Patterns triple.0
  log10_type ← rises before t
  exponent ← byte_in Patterns triple.1.0
  texts ← category_texts_in Patterns triple.1.1
  Ok (record { log10_type = log10_type; exponent = exponent; texts = texts })

-- each entry in turn, its type above the one before it
unfoldable pub listed_entries_in : Option ℕ → List Data → Result (List ListedEntry) TableError
listed_entries_in before [] = Ok []
listed_entries_in before (d ∷ ds) = do
  e ← listed_entry_in before d
  es ← listed_entries_in (Some e.log10_type) ds
  Ok (e ∷ es)

-- a type is above the one before it, if there is one
abbrev pub IsAbove : Option ℕ → ℕ → Type 0
IsAbove None t = Unit {0}
IsAbove (Some before) t = before < t

-- each type of a list is above the one before it
abbrev pub Rise : Option ℕ → List ListedEntry → Type 0
Rise before [] = Unit {0}
Rise before (e ∷ es) = IsAbove before e.log10_type × Rise (Some e.log10_type) es

-- what an object says about a table, not yet judged: entries, and the texts of numbers that aren't shortened
pub record ListedTable : Type 0 where
  pub entries : List ListedEntry
  pub zero : Option Texts

-- what an object says about a table
unfoldable pub listed_table_at : Data → Result ListedTable TableError
listed_table_at d = do
  values ← list_at Patterns d
  entries ← listed_entries_in None values
  zero ← optional_at (category_texts_in Zero) Zero d
  Ok (record { entries = entries; zero = zero })

-- the entries with their patterns
unfoldable pub entries_of : Position → List ListedEntry → Result (List TableEntry) TableError
entries_of position [] = Ok []
entries_of position (e ∷ es) = do
  elements ← patterns_of position e.texts
  rest ← entries_of position es
  Ok (record { log10_type = e.log10_type; exponent = e.exponent; elements = elements } ∷ rest)

-- how a table is rejected that `CompactPatterns::new` rejects
abbrev pub compact_refusal : {A : Type 0} → Position → CompactError → Result A TableError
compact_refusal position compact.ExponentsFall = refused position ExponentsFall
compact_refusal position compact.ExponentAboveType = refused position ExponentAboveType
compact_refusal position compact.TooManyZeros = refused position TooManyZeros
compact_refusal position compact.TooLarge = refused position PatternsTooLarge
compact_refusal position compact.OutOfMemory = Err OutOfMemory

-- The table of entries: `kept` says which are kept, `fault_of` why there is none.
abbrev pub kept_or_refused : Position → Option PatternElements → List TableEntry → Option CompactError → Result (List TableEntry) TableError
kept_or_refused position zero entries None = Ok (kept zero entries)
kept_or_refused position zero entries (Some fault) = compact_refusal position fault

-- the table of entries, or its error
unfoldable pub table_of_entries : Position → Option PatternElements → List TableEntry → Result (List TableEntry) TableError
table_of_entries position zero entries = kept_or_refused position zero entries (fault_of zero entries)

-- first all patterns, entry by entry, then those of numbers that aren't shortened, then the table
unfoldable pub table_of : Position → ListedTable → Result (List TableEntry) TableError
table_of position listed = do
  entries ← entries_of position listed.entries
  zero ← optional_patterns_of position listed.zero
  table_of_entries position zero entries

-- an entry of compact tables: first the kinds of all its fields, then its name, then its table
unfoldable pub compact_at : Position → Data → Result (NamedEntry (List TableEntry)) TableError
compact_at position d = do
  d ← object_in position.key d
  locale ← text_at Locale d
  system ← optional_at (text_in System) System d
  listed ← listed_table_at d
  identifier ← identifier_from position locale system
  table ← table_of position listed
  Ok (record { identifier = identifier; content = table })

-- the table of one object; before that the whole value is searched for numbers that aren't whole
unfoldable pub compact_in : Data → Result (List TableEntry) TableError
compact_in d = if has_float d then Err Float else (do
  d ← object_in Document d
  listed ← listed_table_at d
  table_of (record { key = Document; index = 0 }) listed)
