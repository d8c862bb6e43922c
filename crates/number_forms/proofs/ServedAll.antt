-- All tables for the locale that is wanted make the same form as those of the whole text.
use Rattle.std.proofs.Common.{◌≡◌, ℕ, Bool, List, None, Ok, Option, Result, refl, sym, ap, ap₂, ◌∙◌}
use Rattle.icu_decimal_data.specs.Decided.{or_else}
use Rattle.icu_decimal_data.specs.declared.decimal_symbols.DecimalSymbols.{DecimalSymbols}
use Rattle.icu_decimal.specs.Loaded.{and_then, loaded, preferably}
use Rattle.icu_decimal_options.specs.Preferences.{locale_id}
use Rattle.icu_decimal.specs.declared.options.DecimalFormatterOptions.{DecimalFormatterOptions}
use Rattle.icu_decimal.specs.Decimal.{DecimalFormat}
use Rattle.icu_dimension.specs.CompactMoney.{CompactMoney, compact_money}
use Rattle.icu_dimension.specs.Money.{SignedFormat}
use Rattle.icu_dimension_data.specs.SignedTables.{tables_for}
use Rattle.icu_dimension_data.specs.declared.compact_rows.CompactRow.{CompactRow}
use Rattle.icu_plurals.specs.Rules.{Rule}
use Rattle.icu_dimension.specs.declared.options.CurrencyFormatterOptions.{CurrencyFormatterOptions}
use Rattle.icu_dimension_tables.specs.AllTables.{AllData, all_tables_of}
use Rattle.icu_dimension_tables.specs.Answering.{digits_answer, permilles_answer}
use Rattle.icu_dimension_tables.specs.DimensionTables.{DimensionData}
use Rattle.icu_dimension_tables.specs.ForLocale.{AllAnswersAs, IsAllFor}
use Rattle.icu_dimension_tables.specs.declared.units.UnitWidth.TheVariants as filed
use Rattle.icu_provider.specs.Answer.{Refusal}
use Rattle.icu_provider.specs.Identifier.{Identifier}
use Rattle.icu_table_entries.specs.Answering.{optional_answer}
use Rattle.icu_table_entries.specs.declared.error.TableError.{TableError}
use Rattle.icu_tables.specs.Tables.{TablesData}
use Rattle.decimal_lines.specs.ModeOfTables.{plain_options}
use Rattle.decimal_lines.proofs.OneLocale.{and_then_both, digits_same}
use Rattle.number_rounding.specs.declared.rounding.Rounding.{Rounding}
use Rattle.number_formatters.specs.Grouped.{strategy_of, with_sizes}
use Rattle.number_formatters.specs.Loaded.{amounts_rounding, compact_money_loaded}
use Rattle.number_formatters.specs.Loaded.{currency_loaded, currency_rounding, money_by, money_loaded}
use Rattle.number_formatters.specs.Loaded.{money_precision, money_rounded_loaded, money_short_loaded, named_loaded}
use Rattle.number_formatters.specs.Loaded.{names_loaded}
use Rattle.number_formatters.specs.Loaded.{percent_loaded, permille_loaded, preferences, symbols_for_money, system_digits, unit_loaded}
use Rattle.number_formatters.specs.Loaded.{unit_patterns, with_rounding}
use Rattle.number_formatters.specs.Settings.{FormSettings}
use Rattle.number_formatters.specs.declared.formatter.LoadedFormatter.{LoadedFormatter}
use Rattle.number_formatters.specs.declared.settings.UnitWidth.{UnitWidth}
use Rattle.number_formatters.specs.declared.settings.UnitWidth.TheVariants.{Long, Short, Narrow}
use Rattle.number_forms.specs.Making.{form_started, read_then, with_all}
use Rattle.number_forms.proofs.Served.{numbers-same, preferred-same, symbols-same}

-- what is made of all tables for a locale is made of the text
pub with_all-for : (settings : FormSettings) (text : List ℕ) (kept : AllData) (load : TablesData → DimensionData → Result LoadedFormatter Refusal)
    → IsAllFor settings.locale kept (all_tables_of text)
    → ((all : AllData) → AllAnswersAs settings.locale kept all → load kept.numbers kept.dimension ≡ load all.numbers all.dimension)
    → with_all settings text load ≡ form_started settings (load kept.numbers kept.dimension)
with_all-for settings text kept load (all, read, answers) same =
    ap (λ (r : Result AllData TableError). read_then r (λ t. form_started settings (load t.numbers t.dimension))) read
    ∙ ap (form_started settings) (sym (same all answers))

module _ (settings : FormSettings) (kept all : AllData) (answers : AllAnswersAs settings.locale kept all) where
  -- the symbols for numbers of money
  money_symbols-same : (id : Identifier) → id.locale ≡ settings.locale
      → symbols_for_money settings.grouping kept.numbers kept.dimension id ≡ symbols_for_money settings.grouping all.numbers all.dimension id
  money_symbols-same id same = ap₂ (λ (x y : Result DecimalSymbols Refusal). or_else x y)
      (ap (with_sizes settings.grouping) (answers.dimension.decimals id same))
      (symbols-same settings kept.numbers all.numbers answers.numbers id same)

  -- the formatter of numbers of money
  pub money_numbers-same : (options : DecimalFormatterOptions)
      → loaded (symbols_for_money settings.grouping kept.numbers kept.dimension) (system_digits kept.numbers) (preferences settings) options
      ≡ loaded (symbols_for_money settings.grouping all.numbers all.dimension) (system_digits all.numbers) (preferences settings) options
  money_numbers-same options = and_then_both _ _ _ _ (preferred-same settings kept.numbers all.numbers answers.numbers
      (symbols_for_money settings.grouping kept.numbers kept.dimension) (symbols_for_money settings.grouping all.numbers all.dimension)
      money_symbols-same) (λ s.
      and_then_both _ _ _ _ (digits_same settings.locale settings.system kept.numbers all.numbers answers.numbers s) (λ d. refl))

  -- the formatter of amounts
  currency-same : (code : List ℕ) (options : CurrencyFormatterOptions)
      → currency_loaded settings code options kept.numbers kept.dimension ≡ currency_loaded settings code options all.numbers all.dimension
  unfolding currency_loaded
  currency-same code options = and_then_both _ _ _ _ (money_numbers-same options.decimal) (λ f.
      and_then_both _ _ _ _ (preferred-same settings kept.numbers all.numbers answers.numbers _ _ answers.dimension.currencies) (λ p.
      and_then_both _ _ _ _ (answers.dimension.symbols _ refl) (λ s. refl)))

  -- the precision of amounts
  precision-same : (code : List ℕ) (is_cash : Bool)
      → money_precision settings.precision (digits_answer kept.dimension.digits) code is_cash
      ≡ money_precision settings.precision (digits_answer all.dimension.digits) code is_cash
  precision-same code is_cash = rw answers.dimension.digits refl

  -- amounts of a currency
  pub money-same : (code : List ℕ) (options : CurrencyFormatterOptions) (is_cash : Bool)
      → money_loaded settings code options is_cash kept.numbers kept.dimension ≡ money_loaded settings code options is_cash all.numbers all.dimension
  unfolding money_loaded
  money-same code options is_cash = and_then_both _ _ _ _ (precision-same code is_cash) (λ precision.
      and_then_both _ _ _ _ (currency-same code options) (λ f. refl))

  -- amounts with the name of a currency
  pub named-same : (code : List ℕ) (is_cash : Bool)
      → named_loaded settings code is_cash kept.numbers kept.dimension ≡ named_loaded settings code is_cash all.numbers all.dimension
  unfolding named_loaded names_loaded
  named-same code is_cash = and_then_both _ _ _ _ (precision-same code is_cash) (λ precision.
      and_then_both _ _ _ _ (and_then_both _ _ _ _ (money_numbers-same (plain_options (strategy_of settings.grouping))) (λ f.
      and_then_both _ _ _ _ (answers.numbers.rules _ refl) (λ r.
      and_then_both _ _ _ _ (answers.dimension.names _ refl) (λ x. refl)))) (λ f. refl))

  -- the formatter of compact amounts
  compact_money-same : (code : List ℕ) (options : CurrencyFormatterOptions)
      → compact_money_loaded settings code options kept.numbers kept.dimension
      ≡ compact_money_loaded settings code options all.numbers all.dimension
  unfolding compact_money_loaded currency_loaded
  compact_money-same code options = and_then_both _ _ _ _ (currency-same code options) (λ m.
      and_then_both _ _ _ (next m) (answers.numbers.rules (locale_id settings.locale) refl) (λ r.
      and_then_both _ _ _ (made m r) (preferred-same settings kept.numbers all.numbers answers.numbers _ _ answers.dimension.compact) (λ rows. refl)))
    where
      made : SignedFormat DecimalFormat → List Rule → List CompactRow → Result CompactMoney Refusal
      made m r rows = and_then (tables_for m.formatter.digits m.patterns.texts rows) (λ t. Ok (compact_money m r t))

      next : SignedFormat DecimalFormat → List Rule → Result CompactMoney Refusal
      next m r = and_then (preferably (optional_answer all.dimension.compact) (preferences settings) (locale_id settings.locale)) (made m r)

  -- the rounding of what is shortened with a currency
  pub currency_rounding-same : (code : List ℕ) → currency_rounding settings code kept.dimension ≡ currency_rounding settings code all.dimension
  unfolding currency_rounding
  currency_rounding-same code = rw answers.dimension.digits refl

  amounts_rounding-same : (code : List ℕ) → amounts_rounding settings code kept.dimension ≡ amounts_rounding settings code all.dimension
  unfolding amounts_rounding
  amounts_rounding-same code = rw (currency_rounding-same code) refl

  -- compact amounts
  money_rounded-same : (code : List ℕ) (options : CurrencyFormatterOptions) (rounding : Option Rounding)
      → money_rounded_loaded settings code options rounding kept.numbers kept.dimension
      ≡ money_rounded_loaded settings code options rounding all.numbers all.dimension
  unfolding money_rounded_loaded
  money_rounded-same code options rounding =
      and_then_both _ _ _ (λ f. Ok (with_rounding None (money_by f rounding))) (compact_money-same code options) (λ f. refl)

  pub money_short-same : (code : List ℕ) (options : CurrencyFormatterOptions)
      → money_short_loaded settings code options kept.numbers kept.dimension ≡ money_short_loaded settings code options all.numbers all.dimension
  unfolding money_short_loaded
  money_short-same code options = and_then_both _ _ _
      (λ rounding. money_rounded_loaded settings code options rounding all.numbers all.dimension) (amounts_rounding-same code)
      (λ rounding. money_rounded-same code options rounding)

  -- percents
  pub percent-same : percent_loaded settings kept.numbers kept.dimension ≡ percent_loaded settings all.numbers all.dimension
  unfolding percent_loaded
  percent-same = and_then_both _ _ _ _ (and_then_both _ _ _ _
      (numbers-same settings kept.numbers all.numbers answers.numbers (plain_options (strategy_of settings.grouping))) (λ f.
      and_then_both _ _ _ _ (preferred-same settings kept.numbers all.numbers answers.numbers _ _ answers.dimension.percents) (λ p. refl))) (λ f. refl)

  -- permilles
  pub permille-same : permille_loaded settings kept.numbers kept.dimension ≡ permille_loaded settings all.numbers all.dimension
  unfolding permille_loaded
  permille-same = and_then_both _ _ _ _ (and_then_both _ _ _ _
      (numbers-same settings kept.numbers all.numbers answers.numbers (plain_options (strategy_of settings.grouping))) (λ f.
      and_then_both _ _ _ _ (preferred-same settings kept.numbers all.numbers answers.numbers
      (permilles_answer kept.dimension.permilles) (permilles_answer all.dimension.permilles) answers.dimension.permilles) (λ p. refl))) (λ f. refl)

  -- the patterns of a unit
  pub unit_patterns-same : (width : UnitWidth) (id : Identifier) → id.locale ≡ settings.locale
      → unit_patterns width kept.dimension id ≡ unit_patterns width all.dimension id
  unit_patterns-same Long id same = answers.dimension.units filed.Long id same
  unit_patterns-same Short id same = answers.dimension.units filed.Short id same
  unit_patterns-same Narrow id same = answers.dimension.units filed.Narrow id same

  -- numbers with a unit
  pub unit-same : (name : List ℕ) (width : UnitWidth)
      → unit_loaded settings name width kept.numbers kept.dimension ≡ unit_loaded settings name width all.numbers all.dimension
  unfolding unit_loaded
  unit-same name width = and_then_both _ _ _ _ (and_then_both _ _ _ _
      (numbers-same settings kept.numbers all.numbers answers.numbers (plain_options (strategy_of settings.grouping))) (λ f.
      and_then_both _ _ _ _ (answers.numbers.rules _ refl) (λ r.
      and_then_both _ _ _ _ (unit_patterns-same width _ refl) (λ x. refl)))) (λ f. refl)
