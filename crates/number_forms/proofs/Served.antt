-- Tables for the locale that is wanted make the same form as all tables, and a text that is rejected makes none.
use Rattle.std.proofs.Common.{◌≡◌, ℕ, List, Option, Result, Ok, refl, sym, ap, ◌∙◌}
use Rattle.icu_plurals.specs.Rules.{Rule}
use Rattle.icu_provider.specs.Answer.{Refusal, Refuses}
use Rattle.icu_provider.specs.declared.error.DataErrorKind.{DataErrorKind}
use Rattle.icu_provider.specs.declared.error.DataErrorKind.TheVariants as refusal
use Rattle.icu_provider.specs.Identifier.{Identifier}
use Rattle.icu_decimal_data.specs.CompactTable.{TableEntry}
use Rattle.icu_decimal_options.specs.Preferences.{locale_id}
use Rattle.icu_decimal.specs.CompactFormat.{CompactFormat}
use Rattle.icu_decimal.specs.Decimal.{DecimalFormat}
use Rattle.icu_decimal.specs.Loaded.{Provider, and_then, loaded, loaded_compact, preferably}
use Rattle.icu_decimal.specs.declared.options.CompactDecimalFormatterOptions.{CompactDecimalFormatterOptions}
use Rattle.icu_decimal.specs.declared.options.DecimalFormatterOptions.{DecimalFormatterOptions}
use Rattle.icu_table_entries.specs.Answering.{optional_answer}
use Rattle.icu_table_entries.specs.Named.{NamedEntry}
use Rattle.icu_table_entries.specs.Reading.{Fails}
use Rattle.icu_table_entries.specs.declared.error.TableError.{TableError}
use Rattle.icu_table_entries.specs.declared.error.TableError.TheVariants as table
use Rattle.icu_tables.specs.ForLocale.{AnswersAs, IsFor}
use Rattle.icu_tables.specs.Tables.{TablesData, tables_of}
use Rattle.decimal_lines.specs.ModeOfTables.{compact_options, plain_options}
use Rattle.decimal_lines.proofs.OneLocale.{and_then_both, digits_same, preferably_same}
use Rattle.number_formatters.specs.Grouped.{strategy_of, with_sizes}
use Rattle.number_formatters.specs.Loaded.{compact_preferences, long_loaded, plain_loaded, preferences, short_loaded, symbols_of, system_digits}
use Rattle.number_formatters.specs.Settings.{FormSettings}
use Rattle.number_formatters.specs.declared.formatter.LoadedFormatter.{LoadedFormatter}
use Rattle.number_forms.specs.Forms.{FormData}
use Rattle.number_forms.specs.Making.{StopsForm, form_started, read_then, start_error, table_error, with_tables}
use Rattle.number_forms.specs.declared.error.StartError.{StartError}

module _ (settings : FormSettings) (kept all : TablesData) (answers : AnswersAs settings.locale kept all) where
  -- by the preferred system in the locale, or else by the locale
  pub preferred-same : {X : Type 0} (p q : Provider X) → ((id : Identifier) → id.locale ≡ settings.locale → p id ≡ q id)
      → preferably p (preferences settings) (locale_id settings.locale) ≡ preferably q (preferences settings) (locale_id settings.locale)
  preferred-same p q alike =
      preferably_same p q settings.locale settings.system (locale_id settings.locale) (λ s. alike _ refl) (alike _ refl)

  -- the symbols, with the sizes of the grouping
  pub symbols-same : (id : Identifier) → id.locale ≡ settings.locale → symbols_of settings.grouping kept id ≡ symbols_of settings.grouping all id
  symbols-same id same = ap (with_sizes settings.grouping) (answers.symbols id same)

  -- the formatter of numbers in full
  pub numbers-same : (options : DecimalFormatterOptions)
      → loaded (symbols_of settings.grouping kept) (system_digits kept) (preferences settings) options
      ≡ loaded (symbols_of settings.grouping all) (system_digits all) (preferences settings) options
  numbers-same options =
      and_then_both _ _ _ _ (preferred-same (symbols_of settings.grouping kept) (symbols_of settings.grouping all) symbols-same) (λ s.
      and_then_both _ _ _ _ (digits_same settings.locale settings.system kept all answers s) (λ d. refl))

  -- the formatter of compact numbers, by patterns that answer alike in the locale
  pub compact-same : (one other : Option (List (NamedEntry (List TableEntry))))
      → ((id : Identifier) → id.locale ≡ settings.locale → optional_answer one id ≡ optional_answer other id)
      → (options : CompactDecimalFormatterOptions)
      → loaded_compact (symbols_of settings.grouping kept) (system_digits kept) (optional_answer kept.rules) (optional_answer one)
      (compact_preferences settings) options
      ≡ loaded_compact (symbols_of settings.grouping all) (system_digits all) (optional_answer all.rules) (optional_answer other)
      (compact_preferences settings) options
  compact-same one other alike options = and_then_both _ _ (with_numbers kept one) (with_numbers all other)
      (numbers-same (record { grouping_strategy = options.grouping_strategy })) (λ f.
      and_then_both _ _ (with_rules f one) (with_rules f other) (answers.rules (locale_id settings.locale) refl) (λ r.
      and_then_both _ _ (made f r) (made f r) (preferred-same (optional_answer one) (optional_answer other) alike) (λ t. refl)))
    where
      made : DecimalFormat → List Rule → List TableEntry → Result CompactFormat Refusal
      made f r t = Ok (record { decimal = f; rules = r; table = t })

      with_rules : DecimalFormat → Option (List (NamedEntry (List TableEntry))) → List Rule → Result CompactFormat Refusal
      with_rules f patterns r = and_then (preferably (optional_answer patterns) (preferences settings) (locale_id settings.locale)) (made f r)

      with_numbers : TablesData → Option (List (NamedEntry (List TableEntry))) → DecimalFormat → Result CompactFormat Refusal
      with_numbers tables patterns f = and_then (optional_answer tables.rules (locale_id settings.locale)) (with_rules f patterns)

  -- numbers in full
  pub plain-same : plain_loaded settings kept ≡ plain_loaded settings all
  unfolding plain_loaded
  plain-same = and_then_both _ _ _ _ (numbers-same (plain_options (strategy_of settings.grouping))) (λ f. refl)

  -- those shortened by the short patterns
  pub short-same : short_loaded settings kept ≡ short_loaded settings all
  unfolding short_loaded
  short-same = and_then_both _ _ _ _
      (compact-same kept.short all.short answers.short (compact_options (strategy_of settings.grouping))) (λ f. refl)

  -- those shortened by the long ones
  pub long-same : long_loaded settings kept ≡ long_loaded settings all
  unfolding long_loaded
  long-same = and_then_both _ _ _ _ (compact-same kept.long all.long answers.long (compact_options (strategy_of settings.grouping))) (λ f. refl)

-- what is made of tables for a locale is made of the text
pub with_tables-for : (settings : FormSettings) (text : List ℕ) (kept : TablesData) (load : TablesData → Result LoadedFormatter Refusal)
    → IsFor settings.locale kept (tables_of text) → ((all : TablesData) → AnswersAs settings.locale kept all → load kept ≡ load all)
    → with_tables settings text load ≡ form_started settings (load kept)
with_tables-for settings text kept load (all, read, answers) same =
    ap (λ (r : Result TablesData TableError). read_then r (λ t. form_started settings (load t))) read
    ∙ ap (form_started settings) (sym (same all answers))

-- a rejected text makes nothing
pub fails-stops : {X : Type 0} (e : TableError) (read : Result X TableError) (next : X → Result FormData StartError) → Fails e read
    → StopsForm (table_error e) (read_then read next)
fails-stops table.NotJson read next is = ap (λ r. read_then r next) is
fails-stops table.Float read next is = ap (λ r. read_then r next) is
fails-stops (table.Missing key) read next is = ap (λ r. read_then r next) is
fails-stops (table.WrongKind key) read next is = ap (λ r. read_then r next) is
fails-stops (table.Entry key index fault) read next is = ap (λ r. read_then r next) is
fails-stops table.OutOfMemory read next is = tt

-- why there is no form if the tables reject
pub refuses-stops : (settings : FormSettings) (kind : DataErrorKind) (context : List ℕ) (answer : Result LoadedFormatter Refusal)
    → Refuses kind context answer → StopsForm (start_error kind) (form_started settings answer)
refuses-stops settings refusal.IdentifierNotFound context answer is = ap (form_started settings) is
refuses-stops settings refusal.MarkerNotFound context answer is = ap (form_started settings) is
refuses-stops settings refusal.InvalidRequest context answer is = ap (form_started settings) is
refuses-stops settings refusal.Custom context answer is = ap (form_started settings) is
refuses-stops settings refusal.OutOfMemory context answer is = tt
