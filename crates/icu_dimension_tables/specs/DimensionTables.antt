-- What the tables of money, percents and units of a document are.
use Rattle.std.specs.Prelude.{ℕ, List, Option, option_map, Result, Ok}
use Rattle.serde_json.specs.Data.{Data}
use Rattle.icu_decimal_data.specs.declared.decimal_symbols.DecimalSymbols.{DecimalSymbols}
use Rattle.icu_dimension.specs.CurrencyData.{MoneyPatterns}
use Rattle.icu_dimension_data.specs.Digits.{Digits}
use Rattle.icu_dimension_data.specs.Resolved.{Signed}
use Rattle.icu_dimension_tables.specs.CurrencyCompact.{currency_compact_at}
use Rattle.icu_dimension_tables.specs.CurrencyDigits.{currency_digits_under}
use Rattle.icu_dimension_tables.specs.CurrencySymbols.{LocaleCurrencies, currency_symbols_at}
use Rattle.icu_dimension_tables.specs.Money.{currencies_at, patterns_filed, placeholders_filed}
use Rattle.icu_dimension_tables.specs.NamePlaceholders.{NamePlaceholders}
use Rattle.icu_dimension_tables.specs.Percents.{percents_at, percents_filed, permilles_filed}
use Rattle.icu_dimension_tables.specs.Units.{UnitPatterns, units_at}
use Rattle.icu_dimension_data.specs.declared.compact_rows.CompactRow.{CompactRow}
use Rattle.icu_plurals.specs.Elements.{Elements}
use Rattle.icu_table_entries.specs.Named.{NamedEntry}
use Rattle.icu_table_entries.specs.Reading.{◌>>=◌, entries_in, object_in, optional_at, value_of}
use Rattle.icu_tables.specs.Symbols.{symbols_at}
use Rattle.icu_table_entries.specs.declared.error.Key.TheVariants.{Document, Percents, Units, Currencies, CurrencySymbols, CurrencyDecimals, CurrencyCompact}
use Rattle.icu_table_entries.specs.declared.error.TableError.{TableError}

-- the entries under each key of a document; none for a key that is absent
pub record DimensionData : Type 0 where
  pub digits : Option Digits
  pub percents : Option (List (NamedEntry Signed))
  pub permilles : Option (List (NamedEntry (Option Signed)))
  pub units : Option (List UnitPatterns)
  pub currencies : Option (List (NamedEntry MoneyPatterns))
  pub placeholders : Option (List (NamedEntry (Option (Elements NamePlaceholders))))
  pub symbols : Option (List LocaleCurrencies)
  pub decimals : Option (List (NamedEntry DecimalSymbols))
  pub compact : Option (List (NamedEntry (List CompactRow)))

-- the tables of an object, key by key
unfoldable pub dimension_tables_at : Data → Result DimensionData TableError
dimension_tables_at d = do
  d ← object_in Document d
  digits ← currency_digits_under d
  percents ← optional_at (entries_in percents_at Percents) Percents d
  units ← optional_at (entries_in units_at Units) Units d
  money ← optional_at (entries_in currencies_at Currencies) Currencies d
  symbols ← optional_at (entries_in currency_symbols_at CurrencySymbols) CurrencySymbols d
  decimals ← optional_at (entries_in symbols_at CurrencyDecimals) CurrencyDecimals d
  compact ← optional_at (entries_in currency_compact_at CurrencyCompact) CurrencyCompact d
  Ok (record {
    digits = digits;
    percents = option_map percents_filed percents;
    permilles = option_map permilles_filed percents;
    units = units;
    currencies = option_map patterns_filed money;
    placeholders = option_map placeholders_filed money;
    symbols = symbols;
    decimals = decimals;
    compact = compact;
  })

-- the tables of a text
unfoldable pub dimension_tables_of : List ℕ → Result DimensionData TableError
dimension_tables_of text = do
  d ← value_of text
  dimension_tables_at d
