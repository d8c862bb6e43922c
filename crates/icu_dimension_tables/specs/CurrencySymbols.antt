-- Entries of the symbols and names of currencies.
use Rattle.std.specs.Prelude.{ℕ, List, [], ◌∷◌, Option, Some, None, nat_eq, Result, Ok, if◌then◌else◌}
use Rattle.std.specs.Cmp.Lexicographic.{pointwise}
use Rattle.serde_json.specs.Data.{Data}
use Rattle.icu_dimension.specs.CurrencyData.{SymbolTexts}
use Rattle.icu_dimension_tables.specs.CurrencyDigits.{currency_code_of}
use Rattle.icu_provider.specs.Identifier.{Identifier}
use Rattle.icu_plurals.specs.Elements.{Elements}
use Rattle.icu_table_entries.specs.CategoryTexts.{category_texts_in}
use Rattle.icu_table_entries.specs.Named.{locale_of}
use Rattle.icu_table_entries.specs.Reading.{◌>>=◌, entries_at, four_in, list_at, object_in, text_at, text_in}
use Rattle.icu_table_entries.specs.declared.error.Key.TheVariants.{Locale, Symbols}
use Rattle.icu_table_entries.specs.declared.error.Position.{Position}
use Rattle.icu_table_entries.specs.declared.error.TableError.{TableError}

-- a currency's symbols and its names in a locale
pub record CurrencyRow : Type 0 where
  pub code : List ℕ
  pub symbols : SymbolTexts
  pub names : Elements (List ℕ)

-- the currencies of a locale
pub record LocaleCurrencies : Type 0 where
  pub locale : List ℕ
  pub rows : List CurrencyRow

-- a row: a list of the currency's code, its symbol, its narrow symbol and its names; first their kinds, then the code
unfoldable pub currency_row_at : Position → Data → Result CurrencyRow TableError
currency_row_at position d = do
  four ← four_in Symbols d
  code ← text_in Symbols four.0
  short ← text_in Symbols four.1.0
  narrow ← text_in Symbols four.1.1.0
  names ← category_texts_in Symbols four.1.1.1
  code ← currency_code_of position code
  Ok (record { code = code; symbols = record { short = short; narrow = narrow }; names = names })

-- each row in turn; a fault of one is reported as the entry's
abbrev pub currency_rows_at : Position → List Data → Result (List CurrencyRow) TableError
currency_rows_at position ds = entries_at (λ _. currency_row_at position) Symbols 0 ds

-- an entry: first the kinds of its fields, then its locale, then row by row
unfoldable pub currency_symbols_at : Position → Data → Result LocaleCurrencies TableError
currency_symbols_at position d = do
  d ← object_in position.key d
  locale ← text_at Locale d
  values ← list_at Symbols d
  locale ← locale_of position locale
  rows ← currency_rows_at position values
  Ok (record { locale = locale; rows = rows })

-- the first row of a currency
unfoldable pub row_of_code : List ℕ → List CurrencyRow → Option CurrencyRow
row_of_code code [] = None
row_of_code code (row ∷ rows) = if pointwise nat_eq code row.code then Some row else row_of_code code rows

-- the rows of the first entry of a locale
unfoldable pub rows_of_locale : List ℕ → List LocaleCurrencies → Option (List CurrencyRow)
rows_of_locale locale [] = None
rows_of_locale locale (e ∷ es) = if pointwise nat_eq locale e.locale then Some e.rows else rows_of_locale locale es

-- the row of the currency that is named, in the rows of a locale, if it has any
abbrev pub row_in : Option (List CurrencyRow) → Option (List ℕ) → Option CurrencyRow
row_in None code = None
row_in (Some rows) None = None
row_in (Some rows) (Some code) = row_of_code code rows

-- the row of an identifier: a currency's code in a locale
abbrev pub row_filed : Identifier → List LocaleCurrencies → Option CurrencyRow
row_filed id entries = row_in (rows_of_locale id.locale entries) id.system
