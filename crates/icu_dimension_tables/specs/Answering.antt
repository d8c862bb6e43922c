-- What tables of money, percents and units answer as a provider.
use Rattle.std.specs.Prelude.{List, Option, Some, None, option_map, Result, Ok, codes, if◌then◌else◌}
use Rattle.icu_pattern.specs.Patterns.{PatternText}
use Rattle.icu_plurals.specs.Elements.{Elements}
use Rattle.icu_provider.specs.Answer.{Refusal, refused}
use Rattle.icu_provider.specs.Identifier.{Identifier, same_identifier}
use Rattle.icu_provider.specs.declared.error.DataErrorKind.TheVariants.{IdentifierNotFound, MarkerNotFound}
use Rattle.icu_dimension_data.specs.Digits.{Digits}
use Rattle.icu_dimension_data.specs.Resolved.{Signed}
use Rattle.icu_decimal_data.specs.declared.decimal_symbols.DecimalSymbols.{DecimalSymbols}
use Rattle.icu_dimension.specs.CurrencyData.{SymbolTexts}
use Rattle.icu_dimension.specs.Names.{NameText}
use Rattle.icu_dimension_tables.specs.CurrencyNames.{names_found}
use Rattle.icu_dimension_tables.specs.CurrencySymbols.{LocaleCurrencies, row_filed}
use Rattle.icu_dimension_tables.specs.NamePlaceholders.{NamePlaceholders}
use Rattle.icu_dimension_tables.specs.Percents.{permilles_found}
use Rattle.icu_dimension_tables.specs.Units.{UnitPatterns, first_unit}
use Rattle.icu_dimension_tables.specs.declared.units.UnitWidth.{UnitWidth}
use Rattle.icu_table_entries.specs.Answering.{filed_answer, or_not_found}
use Rattle.icu_table_entries.specs.Named.{NamedEntry, first_filed}

-- the digits of currencies, in the undetermined locale
abbrev pub digits_answer : Option Digits → Identifier → Result Digits Refusal
digits_answer None id = refused MarkerNotFound
digits_answer (Some digits) id =
    if same_identifier id (record { system = None; locale = codes "und" }) then Ok digits else refused IdentifierNotFound

-- the patterns of permilles of the first entry with the identifier, if it has any; without the key there are none for any identifier
abbrev pub permilles_answer : Option (List (NamedEntry (Option Signed))) → Identifier → Result Signed Refusal
permilles_answer None id = refused MarkerNotFound
permilles_answer (Some entries) id = or_not_found (permilles_found (first_filed id entries))

-- the patterns of a width of the first entry with the identifier; without the key there are none for any identifier
abbrev pub unit_answer : UnitWidth → Option (List UnitPatterns) → Identifier → Result (Elements PatternText) Refusal
unit_answer width None id = refused MarkerNotFound
unit_answer width (Some entries) id = or_not_found (first_unit width id entries)

-- the symbols of a currency by its code in the locale; without the key there are none for any identifier
abbrev pub symbols_answer : Option (List LocaleCurrencies) → Identifier → Result SymbolTexts Refusal
symbols_answer None id = refused MarkerNotFound
symbols_answer (Some entries) id = or_not_found (option_map (λ row. row.symbols) (row_filed id entries))

-- The names of a currency by its code in the locale, in the places that the locale's entry without a numbering system has, if it
-- has any. Without one of the two keys there are none for any identifier.
abbrev pub names_answer : Option (List (NamedEntry (Option (Elements NamePlaceholders)))) → Option (List LocaleCurrencies) → Identifier
    → Result (Elements NameText) Refusal
names_answer None currencies id = refused MarkerNotFound
names_answer (Some entries) None id = refused MarkerNotFound
names_answer (Some entries) (Some currencies) id = or_not_found
    (names_found (first_filed (record { system = None; locale = id.locale }) entries) (option_map (λ row. row.names) (row_filed id currencies)))

-- The symbols for numbers of money, if there are any: without the key no locale has its own, so that numbers of money are
-- written with the symbols of all numbers.
abbrev pub decimals_answer : Option (List (NamedEntry DecimalSymbols)) → Identifier → Result DecimalSymbols Refusal
decimals_answer None id = refused IdentifierNotFound
decimals_answer (Some entries) id = filed_answer entries id
