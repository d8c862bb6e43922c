-- The formatter of what tables answer, in the order in which they are asked, or the first error.
use Rattle.std.specs.Prelude.{ℕ, List, Bool, true, false, not, ◌||◌, ◌==◌, Option, Some, None, option_map, Result, Ok, codes, if◌then◌else◌}
use Rattle.std.specs.Prelude.{pos, ◌-ℤ◌}
use Rattle.std.specs.Option.{is_some}
use Rattle.icu_pattern.specs.Patterns.{PatternText}
use Rattle.icu_plurals.specs.Elements.{Elements}
use Rattle.icu_provider.specs.Answer.{Refusal}
use Rattle.icu_decimal_data.specs.CompactTable.{TableEntry}
use Rattle.icu_decimal_data.specs.declared.decimal_symbols.DecimalSymbols.{DecimalSymbols}
use Rattle.icu_decimal_options.specs.Preferences.{locale_id}
use Rattle.icu_decimal.specs.Loaded.{Provider, and_then, loaded, loaded_compact}
use Rattle.icu_decimal.specs.declared.options.CompactDecimalFormatterOptions.{CompactDecimalFormatterOptions}
use Rattle.icu_decimal.specs.declared.options.DecimalFormatterOptions.{DecimalFormatterOptions}
use Rattle.icu_decimal.specs.declared.preferences.CompactDecimalFormatterPreferences.{CompactDecimalFormatterPreferences}
use Rattle.icu_decimal.specs.declared.preferences.DecimalFormatterPreferences.{DecimalFormatterPreferences}
use Rattle.icu_decimal.specs.CompactFormat.{CompactFormat}
use Rattle.icu_decimal.specs.Decimal.{DecimalFormat}
use Rattle.icu_dimension.specs.Money.{SignedFormat}
use Rattle.icu_dimension.specs.Names.{NameText}
use Rattle.icu_dimension.specs.PluralFormat.{PluralFormat}
use Rattle.icu_dimension.specs.CompactMoney.{CompactMoney}
use Rattle.icu_dimension.specs.Loaded.{loaded_compact_amounts, loaded_compact_plural, loaded_currency, loaded_percent, loaded_plural, money_symbols}
use Rattle.icu_dimension.specs.declared.options.CurrencyFormatterOptions.{CurrencyFormatterOptions}
use Rattle.icu_dimension.specs.declared.options.CurrencySign.{CurrencySign}
use Rattle.icu_dimension.specs.declared.options.Width.{Width}
use Rattle.icu_dimension_data.specs.Digits.{Digits, digits_of}
use Rattle.icu_dimension_data.specs.declared.currency_digits.FractionDigits.{FractionDigits}
use Rattle.icu_table_entries.specs.Answering.{filed_answer, optional_answer}
use Rattle.icu_table_entries.specs.Named.{NamedEntry}
use Rattle.icu_tables.specs.Digits.{system_answer}
use Rattle.icu_tables.specs.Tables.{TablesData}
use Rattle.icu_dimension_tables.specs.Answering.{decimals_answer, digits_answer, names_answer, permilles_answer, symbols_answer, unit_answer}
use Rattle.icu_dimension_tables.specs.DimensionTables.{DimensionData}
use Rattle.icu_dimension_tables.specs.declared.units.UnitWidth.TheVariants as filed
use Rattle.skeleton_settings.specs.declared.settings.Notation.{Notation}
use Rattle.skeleton_settings.specs.declared.settings.Notation.TheVariants.{Simple, CompactShort, CompactLong}
use Rattle.skeleton_settings.specs.declared.settings.Precision.{Precision}
use Rattle.skeleton_settings.specs.declared.settings.Precision.TheVariants.{Fraction, Significant, Increment, Both, Currency}
use Rattle.skeleton_settings.specs.declared.settings.Priority.TheVariants.{Relaxed}
use Rattle.number_rounding.specs.declared.rounding.Rounding.{Rounding}
use Rattle.decimal_lines.specs.ModeOfTables.{compact_options, plain_options}
use Rattle.decimal_lines.specs.declared.mode.Mode.TheVariants.{Plain, Compact}
use Rattle.number_formatters.specs.Grouped.{grouped, strategy_of}
use Rattle.number_formatters.specs.Settings.{FormSettings, is_half_even}
use Rattle.number_formatters.specs.declared.formatter.Formatter.{Formatter}
use Rattle.number_formatters.specs.declared.formatter.Formatter.TheVariants.{Numbers, ShortNumbers, Money, MoneyNamed, MoneyShort, Percent, Units}
use Rattle.number_formatters.specs.declared.formatter.Formatter.TheVariants.{ShortMoney, ShortNamed, ShortUnits}
use Rattle.number_formatters.specs.declared.formatter.LoadedFormatter.{LoadedFormatter}
use Rattle.number_formatters.specs.declared.settings.FormGrouping.{FormGrouping}
use Rattle.number_formatters.specs.declared.settings.UnitWidth.{UnitWidth}
use Rattle.number_formatters.specs.declared.settings.UnitWidth.TheVariants.{Long, Short, Narrow}

-- the locale and the system that are wanted
abbrev pub preferences : FormSettings → DecimalFormatterPreferences
preferences settings = record { locale_preferences = settings.locale; numbering_system = settings.system }

-- and for compact numbers
abbrev pub compact_preferences : FormSettings → CompactDecimalFormatterPreferences
compact_preferences settings = record { locale_preferences = settings.locale; numbering_system = settings.system }

-- the options of money
abbrev pub money_options : Option FormGrouping → Width → CurrencySign → CurrencyFormatterOptions
money_options grouping width sign = record { decimal = plain_options (strategy_of grouping); width = width; sign = sign }

-- rounding to a precision as it is wanted
abbrev pub rounding_to : FormSettings → Precision → Rounding
rounding_to settings precision = record {
  precision = precision;
  mode = settings.mode;
  hides_zeros_of_whole = settings.hides_zeros_of_whole;
  integer_digits = settings.integer_digits;
}

-- rounding to the precision that is wanted, if one is
abbrev pub settings_rounding : FormSettings → Option Rounding
settings_rounding settings = option_map (rounding_to settings) settings.precision

-- this formatter, before which numbers are rounded so, if they are
abbrev pub with_rounding : Option Rounding → Formatter → LoadedFormatter
with_rounding rounding formatter = record { rounding = rounding; formatter = formatter }

-- the symbols that tables answer, with the sizes of a grouping
abbrev pub symbols_of : Option FormGrouping → TablesData → Provider DecimalSymbols
symbols_of grouping tables = grouped grouping (filed_answer tables.symbols)

-- those for numbers of money
abbrev pub symbols_for_money : Option FormGrouping → TablesData → DimensionData → Provider DecimalSymbols
symbols_for_money grouping tables dimension = money_symbols (grouped grouping (decimals_answer dimension.decimals)) (symbols_of grouping tables)

-- the digits of numbering systems that they answer
abbrev pub system_digits : TablesData → Provider (List ℕ)
system_digits tables id = system_answer tables.digits id.system

-- numbers in full
unfoldable pub plain_loaded : FormSettings → TablesData → Result LoadedFormatter Refusal
plain_loaded settings tables =
    and_then (loaded (symbols_of settings.grouping tables) (system_digits tables) (preferences settings) (plain_options (strategy_of settings.grouping))) (λ f.
    Ok (with_rounding (settings_rounding settings) (Numbers (Plain f))))

-- the precision of compact numbers where none is set: no fraction digit, or two significant digits
abbrev pub compact_precision : Option Precision → Precision
compact_precision None = Both 0 (Some 0) 1 2 Relaxed true
compact_precision (Some precision) = precision

-- whether the settings say how numbers are rounded, or how many digits they have
abbrev pub sets_digits : FormSettings → Bool
sets_digits settings =
    is_some settings.precision || settings.hides_zeros_of_whole || not (settings.integer_digits == 1) || not (is_half_even settings.mode)

-- the rounding of compact numbers, if the settings have one; without one the formatter rounds them
abbrev pub compact_rounding : FormSettings → Option Rounding
compact_rounding settings = if sets_digits settings then Some (rounding_to settings (compact_precision settings.precision)) else None

-- a formatter of compact numbers with its rounding, if it has one
abbrev pub compact_by : CompactFormat → Option Rounding → Formatter
compact_by format None = Numbers (Compact format)
compact_by format (Some rounding) = ShortNumbers format rounding

-- numbers shortened by patterns of these tables, which may have none
abbrev pub compact_loaded : FormSettings → TablesData → Option (List (NamedEntry (List TableEntry))) → Result LoadedFormatter Refusal
compact_loaded settings tables patterns =
    and_then (loaded_compact (symbols_of settings.grouping tables) (system_digits tables) (optional_answer tables.rules) (optional_answer patterns)
    (compact_preferences settings) (compact_options (strategy_of settings.grouping))) (λ f.
    Ok (with_rounding None (compact_by f (compact_rounding settings))))

-- by the short patterns
unfoldable pub short_loaded : FormSettings → TablesData → Result LoadedFormatter Refusal
short_loaded settings tables = compact_loaded settings tables tables.short

-- by the long ones
unfoldable pub long_loaded : FormSettings → TablesData → Result LoadedFormatter Refusal
long_loaded settings tables = compact_loaded settings tables tables.long

-- as fine as the digits of a currency, in cash or not: in cash the multiples of its step
abbrev pub currency_precision : Bool → FractionDigits → Precision
currency_precision is_cash digits =
    if is_cash then Increment digits.cash_step.increment (pos digits.cash_step.zeros -ℤ pos digits.cash) digits.cash
    else Fraction digits.standard (Some digits.standard)

-- the precision of a currency, in cash or not, by its digits
abbrev pub digits_precision : Provider Digits → List ℕ → Bool → Result Precision Refusal
digits_precision digits code is_cash = and_then (digits (locale_id (codes "und"))) (λ d. Ok (currency_precision is_cash (digits_of d code)))

-- the precision that is wanted, or else that of the currency
unfoldable pub money_precision : Option Precision → Provider Digits → List ℕ → Bool → Result Precision Refusal
money_precision None digits code is_cash = digits_precision digits code is_cash
money_precision (Some (Currency in_cash)) digits code is_cash = digits_precision digits code in_cash
money_precision (Some (Fraction least most)) digits code is_cash = Ok (Fraction least most)
money_precision (Some (Significant least most)) digits code is_cash = Ok (Significant least most)
money_precision (Some (Increment increment power least)) digits code is_cash = Ok (Increment increment power least)
money_precision (Some (Both least most few many priority keeps)) digits code is_cash = Ok (Both least most few many priority keeps)

-- the formatter of amounts of a currency
unfoldable pub currency_loaded : FormSettings → List ℕ → CurrencyFormatterOptions → TablesData → DimensionData
    → Result (SignedFormat DecimalFormat) Refusal
currency_loaded settings code options tables dimension =
    loaded_currency (symbols_for_money settings.grouping tables dimension) (system_digits tables) (optional_answer dimension.currencies)
    (symbols_answer dimension.symbols) (preferences settings) code options

-- amounts of a currency: first their precision, then the formatter
unfoldable pub money_loaded : FormSettings → List ℕ → CurrencyFormatterOptions → Bool → TablesData → DimensionData
    → Result LoadedFormatter Refusal
money_loaded settings code options is_cash tables dimension =
    and_then (money_precision settings.precision (digits_answer dimension.digits) code is_cash) (λ precision.
    and_then (currency_loaded settings code options tables dimension) (λ f.
    Ok (with_rounding (Some (rounding_to settings precision)) (Money f))))

-- the formatter of amounts with the name of a currency
unfoldable pub names_loaded : FormSettings → List ℕ → TablesData → DimensionData → Result (PluralFormat DecimalFormat NameText) Refusal
names_loaded settings code tables dimension =
    loaded_plural (symbols_for_money settings.grouping tables dimension) (system_digits tables) (optional_answer tables.rules)
    (names_answer dimension.placeholders dimension.symbols) (preferences settings) code (plain_options (strategy_of settings.grouping))
    (λ f r x. record { formatter = f; rules = r; elements = x })

-- amounts with the name of a currency
unfoldable pub named_loaded : FormSettings → List ℕ → Bool → TablesData → DimensionData → Result LoadedFormatter Refusal
named_loaded settings code is_cash tables dimension =
    and_then (money_precision settings.precision (digits_answer dimension.digits) code is_cash) (λ precision.
    and_then (names_loaded settings code tables dimension) (λ f.
    Ok (with_rounding (Some (rounding_to settings precision)) (MoneyNamed f))))

-- the options of compact amounts: those of compact numbers, `min2` without a strategy
abbrev pub compact_money_options : Option FormGrouping → Width → CurrencySign → CurrencyFormatterOptions
compact_money_options grouping width sign = record {
  decimal = record { grouping_strategy = (compact_options (strategy_of grouping)).grouping_strategy };
  width = width;
  sign = sign;
}

-- the formatter of compact amounts of a currency
unfoldable pub compact_money_loaded : FormSettings → List ℕ → CurrencyFormatterOptions → TablesData → DimensionData → Result CompactMoney Refusal
compact_money_loaded settings code options tables dimension =
    loaded_compact_amounts (symbols_for_money settings.grouping tables dimension) (system_digits tables) (optional_answer dimension.currencies)
    (symbols_answer dimension.symbols) (optional_answer tables.rules) (optional_answer dimension.compact)
    (preferences settings) code options

-- the rounding of what is shortened with a currency: to the precision of compact numbers, or of the currency if that is asked for
unfoldable pub currency_rounding : FormSettings → List ℕ → DimensionData → Result Rounding Refusal
currency_rounding settings code dimension =
    and_then (money_precision (Some (compact_precision settings.precision)) (digits_answer dimension.digits) code false) (λ precision.
    Ok (rounding_to settings precision))

-- the same, if the settings say anything of it; without it the formatter rounds
unfoldable pub amounts_rounding : FormSettings → List ℕ → DimensionData → Result (Option Rounding) Refusal
amounts_rounding settings code dimension =
    if sets_digits settings then and_then (currency_rounding settings code dimension) (λ rounding. Ok (Some rounding)) else Ok None

-- a formatter of compact amounts with its rounding, if it has one
abbrev pub money_by : CompactMoney → Option Rounding → Formatter
money_by format None = MoneyShort format
money_by format (Some rounding) = ShortMoney format rounding

-- compact amounts of a currency with a rounding, if they have one
unfoldable pub money_rounded_loaded : FormSettings → List ℕ → CurrencyFormatterOptions → Option Rounding → TablesData → DimensionData
    → Result LoadedFormatter Refusal
money_rounded_loaded settings code options rounding tables dimension =
    and_then (compact_money_loaded settings code options tables dimension) (λ f. Ok (with_rounding None (money_by f rounding)))

-- compact amounts of a currency
unfoldable pub money_short_loaded : FormSettings → List ℕ → CurrencyFormatterOptions → TablesData → DimensionData → Result LoadedFormatter Refusal
money_short_loaded settings code options tables dimension =
    and_then (amounts_rounding settings code dimension) (λ rounding. money_rounded_loaded settings code options rounding tables dimension)

-- the formatter of compact amounts with the name of a currency, by compact patterns of the tables
abbrev pub compact_names_loaded : FormSettings → List ℕ → Option (List (NamedEntry (List TableEntry))) → TablesData → DimensionData
    → Result (PluralFormat CompactFormat NameText) Refusal
compact_names_loaded settings code patterns tables dimension =
    loaded_compact_plural (symbols_for_money settings.grouping tables dimension) (system_digits tables) (optional_answer tables.rules)
    (optional_answer patterns) (names_answer dimension.placeholders dimension.symbols) (compact_preferences settings) code
    (compact_options (strategy_of settings.grouping))
    (λ f r x. record { formatter = f; rules = r; elements = x })

-- by the short patterns
unfoldable pub short_names_loaded : FormSettings → List ℕ → TablesData → DimensionData → Result (PluralFormat CompactFormat NameText) Refusal
short_names_loaded settings code tables dimension = compact_names_loaded settings code tables.short tables dimension

-- by the long ones
unfoldable pub long_names_loaded : FormSettings → List ℕ → TablesData → DimensionData → Result (PluralFormat CompactFormat NameText) Refusal
long_names_loaded settings code tables dimension = compact_names_loaded settings code tables.long tables dimension

-- amounts with the name of a currency, shortened by the short patterns
unfoldable pub named_short_loaded : FormSettings → List ℕ → TablesData → DimensionData → Result LoadedFormatter Refusal
named_short_loaded settings code tables dimension =
    and_then (currency_rounding settings code dimension) (λ rounding.
    and_then (short_names_loaded settings code tables dimension) (λ f. Ok (with_rounding None (ShortNamed f rounding))))

-- by the long ones
unfoldable pub named_long_loaded : FormSettings → List ℕ → TablesData → DimensionData → Result LoadedFormatter Refusal
named_long_loaded settings code tables dimension =
    and_then (currency_rounding settings code dimension) (λ rounding.
    and_then (long_names_loaded settings code tables dimension) (λ f. Ok (with_rounding None (ShortNamed f rounding))))

-- amounts with the name of a currency, by the notation of numbers
unfoldable pub named_by_notation : Notation → FormSettings → List ℕ → Bool → TablesData → DimensionData → Result LoadedFormatter Refusal
named_by_notation Simple settings code is_cash tables dimension = named_loaded settings code is_cash tables dimension
named_by_notation CompactShort settings code is_cash tables dimension = named_short_loaded settings code tables dimension
named_by_notation CompactLong settings code is_cash tables dimension = named_long_loaded settings code tables dimension

-- percents
unfoldable pub percent_loaded : FormSettings → TablesData → DimensionData → Result LoadedFormatter Refusal
percent_loaded settings tables dimension =
    and_then (loaded_percent (symbols_of settings.grouping tables) (system_digits tables) (optional_answer dimension.percents)
    (preferences settings) (plain_options (strategy_of settings.grouping))) (λ f.
    Ok (with_rounding (settings_rounding settings) (Percent f)))

-- permilles
unfoldable pub permille_loaded : FormSettings → TablesData → DimensionData → Result LoadedFormatter Refusal
permille_loaded settings tables dimension =
    and_then (loaded_percent (symbols_of settings.grouping tables) (system_digits tables) (permilles_answer dimension.permilles)
    (preferences settings) (plain_options (strategy_of settings.grouping))) (λ f.
    Ok (with_rounding (settings_rounding settings) (Percent f)))

-- the patterns of a unit in a width
abbrev pub unit_patterns : UnitWidth → DimensionData → Provider (Elements PatternText)
unit_patterns Long dimension = unit_answer filed.Long dimension.units
unit_patterns Short dimension = unit_answer filed.Short dimension.units
unit_patterns Narrow dimension = unit_answer filed.Narrow dimension.units

-- the formatter of numbers with a unit
abbrev pub units_loaded : Option FormGrouping → UnitWidth → TablesData → DimensionData → DecimalFormatterPreferences → List ℕ
    → DecimalFormatterOptions → Result (PluralFormat DecimalFormat PatternText) Refusal
units_loaded grouping width tables dimension prefs name options =
    loaded_plural (symbols_of grouping tables) (system_digits tables) (optional_answer tables.rules) (unit_patterns width dimension)
    prefs name options (λ f r x. record { formatter = f; rules = r; elements = x })

-- numbers with a unit
unfoldable pub unit_loaded : FormSettings → List ℕ → UnitWidth → TablesData → DimensionData → Result LoadedFormatter Refusal
unit_loaded settings name width tables dimension =
    and_then (units_loaded settings.grouping width tables dimension (preferences settings) name (plain_options (strategy_of settings.grouping))) (λ f.
    Ok (with_rounding (settings_rounding settings) (Units f)))

-- the formatter of compact numbers with a unit, by compact patterns of the tables
abbrev pub compact_units_loaded : Option FormGrouping → UnitWidth → Option (List (NamedEntry (List TableEntry))) → TablesData → DimensionData
    → CompactDecimalFormatterPreferences → List ℕ → CompactDecimalFormatterOptions → Result (PluralFormat CompactFormat PatternText) Refusal
compact_units_loaded grouping width patterns tables dimension prefs name options =
    loaded_compact_plural (symbols_of grouping tables) (system_digits tables) (optional_answer tables.rules) (optional_answer patterns)
    (unit_patterns width dimension) prefs name options (λ f r x. record { formatter = f; rules = r; elements = x })

-- compact numbers with a unit, by these patterns
abbrev pub compact_unit_loaded : FormSettings → List ℕ → UnitWidth → Option (List (NamedEntry (List TableEntry))) → TablesData → DimensionData
    → Result LoadedFormatter Refusal
compact_unit_loaded settings name width patterns tables dimension =
    and_then (compact_units_loaded settings.grouping width patterns tables dimension (compact_preferences settings) name
    (compact_options (strategy_of settings.grouping))) (λ f.
    Ok (with_rounding None (ShortUnits f (rounding_to settings (compact_precision settings.precision)))))

-- by the short patterns
unfoldable pub unit_short_loaded : FormSettings → List ℕ → UnitWidth → TablesData → DimensionData → Result LoadedFormatter Refusal
unit_short_loaded settings name width tables dimension = compact_unit_loaded settings name width tables.short tables dimension

-- by the long ones
unfoldable pub unit_long_loaded : FormSettings → List ℕ → UnitWidth → TablesData → DimensionData → Result LoadedFormatter Refusal
unit_long_loaded settings name width tables dimension = compact_unit_loaded settings name width tables.long tables dimension

-- numbers with a unit, by their notation
unfoldable pub unit_by_notation : Notation → FormSettings → List ℕ → UnitWidth → TablesData → DimensionData → Result LoadedFormatter Refusal
unit_by_notation Simple settings name width tables dimension = unit_loaded settings name width tables dimension
unit_by_notation CompactShort settings name width tables dimension = unit_short_loaded settings name width tables dimension
unit_by_notation CompactLong settings name width tables dimension = unit_long_loaded settings name width tables dimension
