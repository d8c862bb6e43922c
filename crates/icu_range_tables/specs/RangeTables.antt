-- What the tables of ranges of a document are.
use Rattle.std.specs.Prelude.{ℕ, List, Option, Result, Ok}
use Rattle.serde_json.specs.Data.{Data}
use Rattle.icu_range_tables.specs.PluralRanges.{plural_ranges_at}
use Rattle.icu_range_tables.specs.RangePatterns.{ranges_at}
use Rattle.icu_ranges.specs.Separator.{Separator}
use Rattle.icu_ranges.specs.declared.plural_ranges.PluralRange.{PluralRange}
use Rattle.icu_table_entries.specs.Named.{NamedEntry}
use Rattle.icu_table_entries.specs.Reading.{◌>>=◌, entries_in, object_in, optional_at, value_of}
use Rattle.icu_table_entries.specs.declared.error.Key.TheVariants.{Document, Ranges, PluralRanges}
use Rattle.icu_table_entries.specs.declared.error.TableError.{TableError}

-- the entries under each key of a document; none for a key that is absent
pub record RangeData : Type 0 where
  pub ranges : Option (List (NamedEntry Separator))
  pub plural_ranges : Option (List (NamedEntry (List PluralRange)))

-- the tables of an object, key by key
unfoldable pub range_tables_at : Data → Result RangeData TableError
range_tables_at d = do
  d ← object_in Document d
  ranges ← optional_at (entries_in ranges_at Ranges) Ranges d
  plural_ranges ← optional_at (entries_in plural_ranges_at PluralRanges) PluralRanges d
  Ok (record { ranges = ranges; plural_ranges = plural_ranges })

-- the tables of a text
unfoldable pub range_tables_of : List ℕ → Result RangeData TableError
range_tables_of text = do
  d ← value_of text
  range_tables_at d
