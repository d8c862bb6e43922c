-- What the tables of a document are.
use Rattle.std.specs.Prelude.{ℕ, List, Option, Result, Ok, Err, if◌then◌else◌}
use Rattle.serde_json.specs.Data.{Data}
use Rattle.serde_json.specs.Read.{read}
use Rattle.serde_json.specs.Written.{has_float}
use Rattle.icu_plurals.specs.Rules.{Rule}
use Rattle.icu_decimal_data.specs.declared.decimal_symbols.DecimalSymbols.{DecimalSymbols}
use Rattle.icu_decimal_data.specs.CompactTable.{TableEntry}
use Rattle.icu_tables.specs.Compact.{compact_at}
use Rattle.icu_tables.specs.Digits.{SystemDigits, digits_at}
use Rattle.icu_table_entries.specs.Named.{NamedEntry}
use Rattle.icu_table_entries.specs.Reading.{◌>>=◌, ok_or, optional_at, object_in, entries_in, entries_under}
use Rattle.icu_tables.specs.Rules.{rules_at}
use Rattle.icu_tables.specs.Symbols.{symbols_at}
use Rattle.icu_table_entries.specs.declared.error.Key.TheVariants.{Document, Symbols, Digits, Rules, Short, Long, Ordinals}
use Rattle.icu_table_entries.specs.declared.error.TableError.{TableError}
use Rattle.icu_table_entries.specs.declared.error.TableError.TheVariants.{NotJson, Float}

-- the entries under each key of a document; none for an optional key that is absent
pub record TablesData : Type 0 where
  pub symbols : List (NamedEntry DecimalSymbols)
  pub digits : List SystemDigits
  pub rules : Option (List (NamedEntry (List Rule)))
  pub short : Option (List (NamedEntry (List TableEntry)))
  pub long : Option (List (NamedEntry (List TableEntry)))
  pub ordinals : Option (List (NamedEntry (List Rule)))

-- the tables of an object, key by key
unfoldable pub tables_at : Data → Result TablesData TableError
tables_at d = do
  d ← object_in Document d
  symbols ← entries_under symbols_at Symbols d
  digits ← entries_under digits_at Digits d
  rules ← optional_at (entries_in rules_at Rules) Rules d
  short ← optional_at (entries_in compact_at Short) Short d
  long ← optional_at (entries_in compact_at Long) Long d
  ordinals ← optional_at (entries_in rules_at Ordinals) Ordinals d
  Ok (record { symbols = symbols; digits = digits; rules = rules; short = short; long = long; ordinals = ordinals })

-- before that the whole value is searched for numbers that aren't whole
unfoldable pub tables_in : Data → Result TablesData TableError
tables_in d = if has_float d then Err Float else tables_at d

-- the tables of a text
unfoldable pub tables_of : List ℕ → Result TablesData TableError
tables_of text = do
  d ← ok_or (read text) NotJson
  tables_in d
