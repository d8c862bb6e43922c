use Rattle.std.proofs.Common.{Option, ap, ◌∙◌, subst}
use Rattle.icu_provider.specs.Answer.{Answers}
use Rattle.icu_decimal.specs.declared.options.CompactDecimalFormatterOptions.{CompactDecimalFormatterOptions}
use Rattle.icu_decimal.specs.declared.preferences.CompactDecimalFormatterPreferences.{CompactDecimalFormatterPreferences}
use Rattle.icu_dimension.specs.Loaded.{loaded_compact_plural}
use Rattle.icu_table_entries.specs.Answering.{optional_answer}
use Rattle.icu_dimension_tables.specs.Answering.{names_answer}
use Rattle.decimal_lines.specs.ModeOfTables.{compact_options}
use Rattle.number_formatters.specs.Grouped.{strategy_of}
use Rattle.number_formatters.specs.Loaded.{compact_preferences, long_names_loaded, symbols_for_money, system_digits}
use Rattle.number_formatters.specs.Settings.{FormSettings}
use Rattle.number_formatters.specs.declared.settings.FormGrouping.{FormGrouping}
use Rattle.number_formatters.proofs.loading_compact.load_long_names.Goals as goal

pub returns : goal.returns
unfolding long_names_loaded
returns c =
    let tables = c.args.all.now.numbers in
    let dimension = c.args.all.now.dimension in
    let told : Option FormGrouping → CompactDecimalFormatterPreferences → CompactDecimalFormatterOptions → Type 0 = λ grouping prefs options.
    Answers c.try_new_long_unstable.result
    (loaded_compact_plural (symbols_for_money grouping tables dimension) (system_digits tables) (optional_answer tables.rules)
    (optional_answer tables.long) (names_answer dimension.placeholders dimension.symbols) prefs c.args.code options
    (λ f r x. record { formatter = f; rules = r; elements = x })) in
    subst (λ (w : FormSettings). told w.grouping (compact_preferences c.args.settings.now) (compact_options (strategy_of w.grouping)))
    c.settings.view_is
    (subst (told c.settings.inside.grouping (compact_preferences c.args.settings.now))
    (c.compact_options-options.ensures ∙ ap compact_options c.strategy_of.ensures)
    (subst (λ (prefs : CompactDecimalFormatterPreferences). told c.settings.inside.grouping prefs c.compact_options-options.result)
    c.compact_preferences-prefs.ensures c.try_new_long_unstable.ensures))
