-- All tables for the locale that is wanted make the same forms of compact amounts with names and of compact units as the whole text.
use Rattle.std.proofs.Common.{◌≡◌, ℕ, Bool, List, None, Ok, Option, Result, refl}
use Rattle.icu_pattern.specs.Patterns.{PatternText}
use Rattle.icu_plurals.specs.Elements.{Elements}
use Rattle.icu_plurals.specs.Rules.{Rule}
use Rattle.icu_provider.specs.Answer.{Refusal}
use Rattle.icu_provider.specs.Identifier.{Identifier}
use Rattle.icu_decimal_data.specs.CompactTable.{TableEntry}
use Rattle.icu_decimal_options.specs.Preferences.{locale_id}
use Rattle.icu_decimal.specs.CompactFormat.{CompactFormat}
use Rattle.icu_decimal.specs.Decimal.{DecimalFormat}
use Rattle.icu_decimal.specs.Loaded.{and_then, loaded_compact, preferably}
use Rattle.icu_decimal.specs.declared.options.CompactDecimalFormatterOptions.{CompactDecimalFormatterOptions}
use Rattle.icu_dimension.specs.Loaded.{named_id}
use Rattle.icu_dimension.specs.Names.{NameText}
use Rattle.icu_dimension.specs.PluralFormat.{PluralFormat}
use Rattle.icu_dimension_tables.specs.AllTables.{AllData}
use Rattle.icu_dimension_tables.specs.Answering.{names_answer}
use Rattle.icu_dimension_tables.specs.ForLocale.{AllAnswersAs}
use Rattle.icu_table_entries.specs.Answering.{optional_answer}
use Rattle.icu_table_entries.specs.Named.{NamedEntry}
use Rattle.decimal_lines.specs.ModeOfTables.{compact_options}
use Rattle.decimal_lines.proofs.OneLocale.{and_then_both}
use Rattle.number_rounding.specs.declared.rounding.Rounding.{Rounding}
use Rattle.number_formatters.specs.Grouped.{strategy_of}
use Rattle.number_formatters.specs.Loaded.{compact_names_loaded, compact_precision, compact_preferences, compact_unit_loaded}
use Rattle.number_formatters.specs.Loaded.{long_names_loaded, named_by_notation, named_long_loaded, named_short_loaded, preferences, rounding_to}
use Rattle.number_formatters.specs.Loaded.{short_names_loaded, symbols_for_money, system_digits, unit_by_notation, unit_long_loaded, unit_patterns}
use Rattle.number_formatters.specs.Loaded.{unit_short_loaded, with_rounding}
use Rattle.number_formatters.specs.Settings.{FormSettings}
use Rattle.number_formatters.specs.declared.formatter.Formatter.TheVariants.{ShortNamed, ShortUnits}
use Rattle.number_formatters.specs.declared.formatter.LoadedFormatter.{LoadedFormatter}
use Rattle.number_formatters.specs.declared.settings.UnitWidth.{UnitWidth}
use Rattle.skeleton_settings.specs.declared.settings.Notation.{Notation}
use Rattle.skeleton_settings.specs.declared.settings.Notation.TheVariants.{Simple, CompactShort, CompactLong}
use Rattle.number_forms.proofs.ServedAll.{currency_rounding-same, money_numbers-same, named-same, unit-same, unit_patterns-same}
use Rattle.number_forms.proofs.Served.{compact-same, preferred-same}

module _ (settings : FormSettings) (kept all : AllData) (answers : AllAnswersAs settings.locale kept all) where
  -- the formatter of compact numbers of money, by patterns that answer alike in the locale
  compact_numbers-same : (one other : Option (List (NamedEntry (List TableEntry))))
      → ((id : Identifier) → id.locale ≡ settings.locale → optional_answer one id ≡ optional_answer other id)
      → (options : CompactDecimalFormatterOptions)
      → loaded_compact (symbols_for_money settings.grouping kept.numbers kept.dimension) (system_digits kept.numbers) (optional_answer kept.numbers.rules)
      (optional_answer one) (compact_preferences settings) options
      ≡ loaded_compact (symbols_for_money settings.grouping all.numbers all.dimension) (system_digits all.numbers) (optional_answer all.numbers.rules)
      (optional_answer other) (compact_preferences settings) options
  compact_numbers-same one other alike options = and_then_both _ _ (with_numbers kept one) (with_numbers all other)
      (money_numbers-same settings kept all answers (record { grouping_strategy = options.grouping_strategy })) (λ f.
      and_then_both _ _ (with_rules f one) (with_rules f other) (answers.numbers.rules (locale_id settings.locale) refl) (λ r.
      and_then_both _ _ (made f r) (made f r)
      (preferred-same settings kept.numbers all.numbers answers.numbers (optional_answer one) (optional_answer other) alike)
      (λ t. refl)))
    where
      made : DecimalFormat → List Rule → List TableEntry → Result CompactFormat Refusal
      made f r t = Ok (record { decimal = f; rules = r; table = t })

      with_rules : DecimalFormat → Option (List (NamedEntry (List TableEntry))) → List Rule → Result CompactFormat Refusal
      with_rules f patterns r = and_then (preferably (optional_answer patterns) (preferences settings) (locale_id settings.locale)) (made f r)

      with_numbers : AllData → Option (List (NamedEntry (List TableEntry))) → DecimalFormat → Result CompactFormat Refusal
      with_numbers tables patterns f = and_then (optional_answer tables.numbers.rules (locale_id settings.locale)) (with_rules f patterns)

  -- the formatter of compact amounts with the name of a currency
  compact_names-same : (code : List ℕ) (one other : Option (List (NamedEntry (List TableEntry))))
      → ((id : Identifier) → id.locale ≡ settings.locale → optional_answer one id ≡ optional_answer other id)
      → compact_names_loaded settings code one kept.numbers kept.dimension ≡ compact_names_loaded settings code other all.numbers all.dimension
  compact_names-same code one other alike = and_then_both _ _ (with_numbers kept) (with_numbers all)
      (compact_numbers-same one other alike (compact_options (strategy_of settings.grouping))) (λ f.
      and_then_both _ _ (with_rules kept f) (with_rules all f) (answers.numbers.rules (locale_id settings.locale) refl) (λ r.
      and_then_both _ _ (made f r) (made f r) (answers.dimension.names (named_id code settings.locale) refl) (λ x. refl)))
    where
      made : CompactFormat → List Rule → Elements NameText → Result (PluralFormat CompactFormat NameText) Refusal
      made f r x = Ok (record { formatter = f; rules = r; elements = x })

      with_rules : AllData → CompactFormat → List Rule → Result (PluralFormat CompactFormat NameText) Refusal
      with_rules tables f r =
          and_then (names_answer tables.dimension.placeholders tables.dimension.symbols (named_id code settings.locale)) (made f r)

      with_numbers : AllData → CompactFormat → Result (PluralFormat CompactFormat NameText) Refusal
      with_numbers tables f = and_then (optional_answer tables.numbers.rules (locale_id settings.locale)) (with_rules tables f)

  short_names-same : (code : List ℕ)
      → short_names_loaded settings code kept.numbers kept.dimension ≡ short_names_loaded settings code all.numbers all.dimension
  unfolding short_names_loaded
  short_names-same code = compact_names-same code kept.numbers.short all.numbers.short answers.numbers.short

  long_names-same : (code : List ℕ)
      → long_names_loaded settings code kept.numbers kept.dimension ≡ long_names_loaded settings code all.numbers all.dimension
  unfolding long_names_loaded
  long_names-same code = compact_names-same code kept.numbers.long all.numbers.long answers.numbers.long

  -- compact amounts with the name of a currency
  named_short-same : (code : List ℕ)
      → named_short_loaded settings code kept.numbers kept.dimension ≡ named_short_loaded settings code all.numbers all.dimension
  unfolding named_short_loaded
  named_short-same code = and_then_both _ _ (made kept) (made all) (currency_rounding-same settings kept all answers code) (λ rounding.
      and_then_both _ _ (form rounding) (form rounding) (short_names-same code) (λ f. refl))
    where
      form : Rounding → PluralFormat CompactFormat NameText → Result LoadedFormatter Refusal
      form rounding f = Ok (with_rounding None (ShortNamed f rounding))

      made : AllData → Rounding → Result LoadedFormatter Refusal
      made tables rounding = and_then (short_names_loaded settings code tables.numbers tables.dimension) (form rounding)

  named_long-same : (code : List ℕ)
      → named_long_loaded settings code kept.numbers kept.dimension ≡ named_long_loaded settings code all.numbers all.dimension
  unfolding named_long_loaded
  named_long-same code = and_then_both _ _ (made kept) (made all) (currency_rounding-same settings kept all answers code) (λ rounding.
      and_then_both _ _ (form rounding) (form rounding) (long_names-same code) (λ f. refl))
    where
      form : Rounding → PluralFormat CompactFormat NameText → Result LoadedFormatter Refusal
      form rounding f = Ok (with_rounding None (ShortNamed f rounding))

      made : AllData → Rounding → Result LoadedFormatter Refusal
      made tables rounding = and_then (long_names_loaded settings code tables.numbers tables.dimension) (form rounding)

  -- amounts with the name of a currency
  pub named_by-same : (notation : Notation) (code : List ℕ) (is_cash : Bool)
      → named_by_notation notation settings code is_cash kept.numbers kept.dimension
      ≡ named_by_notation notation settings code is_cash all.numbers all.dimension
  unfolding named_by_notation
  named_by-same Simple code is_cash = named-same settings kept all answers code is_cash
  named_by-same CompactShort code is_cash = named_short-same code
  named_by-same CompactLong code is_cash = named_long-same code

  -- the formatter of compact numbers with a unit, by patterns that answer alike in the locale
  compact_unit-same : (name : List ℕ) (width : UnitWidth) (one other : Option (List (NamedEntry (List TableEntry))))
      → ((id : Identifier) → id.locale ≡ settings.locale → optional_answer one id ≡ optional_answer other id)
      → compact_unit_loaded settings name width one kept.numbers kept.dimension ≡ compact_unit_loaded settings name width other all.numbers all.dimension
  compact_unit-same name width one other alike = and_then_both _ _ form form (and_then_both _ _ (with_numbers kept) (with_numbers all)
      (compact-same settings kept.numbers all.numbers answers.numbers one other alike (compact_options (strategy_of settings.grouping)))
      (λ f. and_then_both _ _ (with_rules kept f) (with_rules all f) (answers.numbers.rules (locale_id settings.locale) refl) (λ r.
      and_then_both _ _ (made f r) (made f r) (unit_patterns-same settings kept all answers width (named_id name settings.locale) refl)
      (λ x. refl)))) (λ f. refl)
    where
      made : CompactFormat → List Rule → Elements PatternText → Result (PluralFormat CompactFormat PatternText) Refusal
      made f r x = Ok (record { formatter = f; rules = r; elements = x })

      with_rules : AllData → CompactFormat → List Rule → Result (PluralFormat CompactFormat PatternText) Refusal
      with_rules tables f r = and_then (unit_patterns width tables.dimension (named_id name settings.locale)) (made f r)

      with_numbers : AllData → CompactFormat → Result (PluralFormat CompactFormat PatternText) Refusal
      with_numbers tables f = and_then (optional_answer tables.numbers.rules (locale_id settings.locale)) (with_rules tables f)

      form : PluralFormat CompactFormat PatternText → Result LoadedFormatter Refusal
      form f = Ok (with_rounding None (ShortUnits f (rounding_to settings (compact_precision settings.precision))))

  unit_short-same : (name : List ℕ) (width : UnitWidth)
      → unit_short_loaded settings name width kept.numbers kept.dimension ≡ unit_short_loaded settings name width all.numbers all.dimension
  unfolding unit_short_loaded
  unit_short-same name width = compact_unit-same name width kept.numbers.short all.numbers.short answers.numbers.short

  unit_long-same : (name : List ℕ) (width : UnitWidth)
      → unit_long_loaded settings name width kept.numbers kept.dimension ≡ unit_long_loaded settings name width all.numbers all.dimension
  unfolding unit_long_loaded
  unit_long-same name width = compact_unit-same name width kept.numbers.long all.numbers.long answers.numbers.long

  -- numbers with a unit, by their notation
  pub unit_by-same : (notation : Notation) (name : List ℕ) (width : UnitWidth)
      → unit_by_notation notation settings name width kept.numbers kept.dimension
      ≡ unit_by_notation notation settings name width all.numbers all.dimension
  unfolding unit_by_notation
  unit_by-same Simple name width = unit-same settings kept all answers name width
  unit_by-same CompactShort name width = unit_short-same name width
  unit_by-same CompactLong name width = unit_long-same name width
