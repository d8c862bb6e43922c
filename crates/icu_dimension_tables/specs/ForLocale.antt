-- All tables that are read for one locale.
use Rattle.std.specs.Prelude.{◌≡◌, ℕ, Bool, true, List, Option, Result, Ok, Err, nat_eq}
use Rattle.std.specs.Cmp.Lexicographic.{pointwise}
use Rattle.serde_json.specs.Data.{Members}
use Rattle.serde_json.specs.Find.{get_member}
use Rattle.icu_provider.specs.Identifier.{Identifier}
use Rattle.icu_decimal_data.specs.declared.decimal_symbols.DecimalSymbols.{DecimalSymbols}
use Rattle.icu_dimension_data.specs.declared.compact_rows.CompactRow.{CompactRow}
use Rattle.icu_dimension_tables.specs.AllTables.{AllData}
use Rattle.icu_dimension_tables.specs.Answering.{decimals_answer, names_answer, permilles_answer, symbols_answer, unit_answer}
use Rattle.icu_dimension_tables.specs.CurrencyCompact.{currency_compact_at}
use Rattle.icu_dimension_tables.specs.CurrencyDigits.{digits_row_at}
use Rattle.icu_dimension_tables.specs.CurrencySymbols.{LocaleCurrencies, currency_symbols_at}
use Rattle.icu_dimension_tables.specs.DimensionTables.{DimensionData}
use Rattle.icu_dimension_tables.specs.Money.{LocaleMoney, currencies_at}
use Rattle.icu_dimension_tables.specs.Percents.{LocalePercents, percents_at}
use Rattle.icu_dimension_tables.specs.Units.{UnitPatterns, units_at}
use Rattle.icu_dimension_tables.specs.declared.currency_digits.DigitsRow.{DigitsRow}
use Rattle.icu_dimension_tables.specs.declared.units.UnitWidth.{UnitWidth}
use Rattle.icu_table_entries.specs.Answering.{optional_answer}
use Rattle.icu_table_entries.specs.Keys.{name_of}
use Rattle.icu_table_entries.specs.Named.{NamedEntry, is_of}
use Rattle.icu_table_entries.specs.Reading.{Fails}
use Rattle.icu_table_entries.specs.declared.error.Key.TheVariants.{Percents, Units, Currencies, CurrencySymbols, CurrencyDecimals}
use Rattle.icu_table_entries.specs.declared.error.Key.TheVariants.{CurrencyDigits, CurrencyCompact}
use Rattle.icu_table_entries.specs.declared.error.TableError.{TableError}
use Rattle.icu_tables.specs.ForLocale.{AnswersAs, FoundData, Holds, HoldsAt}
use Rattle.icu_tables.specs.Symbols.{symbols_at}

-- For each identifier of the locale the kept tables of money, percents and units answer what all tables answer. The digits of
-- currencies are the same.
pub record DimensionAnswersAs (locale : List ℕ) (kept all : DimensionData) : Type 0 where
  pub digits : kept.digits ≡ all.digits
  pub percents : (id : Identifier) → id.locale ≡ locale → optional_answer kept.percents id ≡ optional_answer all.percents id
  pub permilles : (id : Identifier) → id.locale ≡ locale → permilles_answer kept.permilles id ≡ permilles_answer all.permilles id
  pub units : (width : UnitWidth) (id : Identifier) → id.locale ≡ locale → unit_answer width kept.units id ≡ unit_answer width all.units id
  pub currencies : (id : Identifier) → id.locale ≡ locale → optional_answer kept.currencies id ≡ optional_answer all.currencies id
  pub symbols : (id : Identifier) → id.locale ≡ locale → symbols_answer kept.symbols id ≡ symbols_answer all.symbols id
  pub names : (id : Identifier) → id.locale ≡ locale → names_answer kept.placeholders kept.symbols id ≡ names_answer all.placeholders all.symbols id
  pub decimals : (id : Identifier) → id.locale ≡ locale → decimals_answer kept.decimals id ≡ decimals_answer all.decimals id
  pub compact : (id : Identifier) → id.locale ≡ locale → optional_answer kept.compact id ≡ optional_answer all.compact id

-- all tables that were kept answer for the locale what all tables of the text answer
pub record AllAnswersAs (locale : List ℕ) (kept all : AllData) : Type 0 where
  pub numbers : AnswersAs locale kept.numbers all.numbers
  pub dimension : DimensionAnswersAs locale kept.dimension all.dimension

-- tables of money, percents and units for a locale, of those that were read
abbrev pub IsDimensionFor : List ℕ → DimensionData → Result DimensionData TableError → Type 0
IsDimensionFor locale kept read = (all : DimensionData) × (read ≡ Ok all) × DimensionAnswersAs locale kept all

-- all tables for a locale, of those that were read
abbrev pub IsAllFor : List ℕ → AllData → Result AllData TableError → Type 0
IsAllFor locale kept read = (all : AllData) × (read ≡ Ok all) × AllAnswersAs locale kept all

-- The result of a call for a locale, by what was read; `OutOfMemory` may be reported in any case.
abbrev pub AllGivesFor : List ℕ → Result AllData TableError → Result AllData TableError → Type 0
AllGivesFor locale (Ok kept) read = IsAllFor locale kept read
AllGivesFor locale (Err e) read = Fails e read

-- whether a unit's patterns are of the locale
abbrev pub unit_is_of : List ℕ → UnitPatterns → Bool
unit_is_of locale entry = pointwise nat_eq locale entry.identifier.locale

-- whether currencies are those of the locale
abbrev pub currencies_are_of : List ℕ → LocaleCurrencies → Bool
currencies_are_of locale entry = pointwise nat_eq locale entry.locale

-- what is kept of each list of a document
pub record AllFoundData : Type 0 where
  pub numbers : FoundData
  pub digits : Option (List DigitsRow)
  pub percents : Option (List (NamedEntry LocalePercents))
  pub units : Option (List UnitPatterns)
  pub money : Option (List (NamedEntry LocaleMoney))
  pub symbols : Option (List LocaleCurrencies)
  pub decimals : Option (List (NamedEntry DecimalSymbols))
  pub compact : Option (List (NamedEntry (List CompactRow)))

-- what is kept of these members for a locale; all their numbers are whole
pub record HoldsAll (locale : List ℕ) (ds : Members) (f : AllFoundData) : Type 0 where
  pub numbers : Holds locale ds f.numbers
  pub digits : HoldsAt digits_row_at (λ entry. true) CurrencyDigits (get_member (name_of CurrencyDigits) ds) f.digits
  pub percents : HoldsAt percents_at (is_of locale) Percents (get_member (name_of Percents) ds) f.percents
  pub units : HoldsAt units_at (unit_is_of locale) Units (get_member (name_of Units) ds) f.units
  pub money : HoldsAt currencies_at (is_of locale) Currencies (get_member (name_of Currencies) ds) f.money
  pub symbols : HoldsAt currency_symbols_at (currencies_are_of locale) CurrencySymbols (get_member (name_of CurrencySymbols) ds) f.symbols
  pub decimals : HoldsAt symbols_at (is_of locale) CurrencyDecimals (get_member (name_of CurrencyDecimals) ds) f.decimals
  pub compact : HoldsAt currency_compact_at (is_of locale) CurrencyCompact (get_member (name_of CurrencyCompact) ds) f.compact
