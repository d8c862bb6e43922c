-- Entries of symbols.
use Rattle.std.specs.Prelude.{ℕ, List, Option, Result, Ok, nat_lt, if◌then◌else◌}
use Rattle.serde_json.specs.Data.{Data}
use Rattle.icu_provider.specs.NumberingSystem.{is_numbering_system}
use Rattle.icu_decimal_symbols.specs.Symbols.{SymbolTexts, total_len}
use Rattle.icu_decimal_data.specs.declared.decimal_symbols.DecimalSymbols.{DecimalSymbols}
use Rattle.icu_decimal_data.specs.declared.grouping_sizes.GroupingSizes.{GroupingSizes}
use Rattle.icu_table_entries.specs.Named.{NamedEntry, refused, identifier_from}
use Rattle.icu_table_entries.specs.Reading.{◌>>=◌, member_at, object_in, optional_at, text_in, text_at, texts_at, byte_in, triple_in}
use Rattle.icu_table_entries.specs.declared.error.EntryFault.TheVariants.{SymbolsTooLarge, BadSymbolsNumberingSystem}
use Rattle.icu_table_entries.specs.declared.error.Key.{Key}
use Rattle.icu_table_entries.specs.declared.error.Key.TheVariants.{Locale, System, Minus, Plus, Decimal, Group, Numsys, Sizes}
use Rattle.icu_table_entries.specs.declared.error.Position.{Position}
use Rattle.icu_table_entries.specs.declared.error.TableError.{TableError}

-- what an entry says, not yet judged
pub record SymbolFields : Type 0 where
  pub locale : List ℕ
  pub system : Option (List ℕ)
  pub strings : SymbolTexts
  pub grouping_sizes : GroupingSizes

-- the sizes of groups: three whole numbers below 256
unfoldable pub sizes_at : Data → Result GroupingSizes TableError
sizes_at d = do
  sizes ← member_at Sizes d
  sizes ← triple_in Sizes sizes
  primary ← byte_in Sizes sizes.0
  secondary ← byte_in Sizes sizes.1.0
  min_grouping ← byte_in Sizes sizes.1.1
  Ok (record { primary = primary; secondary = secondary; min_grouping = min_grouping })

-- the seven texts
unfoldable pub strings_at : Data → Result SymbolTexts TableError
strings_at d = do
  minus ← texts_at Minus d
  plus ← texts_at Plus d
  decimal ← text_at Decimal d
  group ← text_at Group d
  numsys ← text_at Numsys d
  Ok (record {
    minus_sign_prefix = minus.0;
    minus_sign_suffix = minus.1;
    plus_sign_prefix = plus.0;
    plus_sign_suffix = plus.1;
    decimal_separator = decimal;
    grouping_separator = group;
    numsys = numsys;
  })

-- the fields of an entry
unfoldable pub symbol_fields_at : Key → Data → Result SymbolFields TableError
symbol_fields_at key d = do
  d ← object_in key d
  locale ← text_at Locale d
  system ← optional_at (text_in System) System d
  strings ← strings_at d
  sizes ← sizes_at d
  Ok (record { locale = locale; system = system; strings = strings; grouping_sizes = sizes })

-- The symbols, which are at most 255 bytes together and name a numbering system.
unfoldable pub symbols_of : Position → SymbolTexts → GroupingSizes → Result DecimalSymbols TableError
symbols_of position strings sizes =
    if nat_lt 255 (total_len strings) then refused position SymbolsTooLarge
    else if is_numbering_system strings.numsys then Ok (record { strings = strings; grouping_sizes = sizes })
    else refused position BadSymbolsNumberingSystem

-- an entry: first the kinds of all its fields, then its name, then its symbols
unfoldable pub symbols_at : Position → Data → Result (NamedEntry DecimalSymbols) TableError
symbols_at position d = do
  fields ← symbol_fields_at position.key d
  identifier ← identifier_from position fields.locale fields.system
  symbols ← symbols_of position fields.strings fields.grouping_sizes
  Ok (record { identifier = identifier; content = symbols })
