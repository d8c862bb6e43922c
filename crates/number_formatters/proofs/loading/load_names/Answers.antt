use Rattle.std.proofs.Common.{Option, ap, ◌∙◌, subst}
use Rattle.icu_provider.specs.Answer.{Answers}
use Rattle.icu_decimal.specs.declared.options.DecimalFormatterOptions.{DecimalFormatterOptions}
use Rattle.icu_decimal.specs.declared.preferences.DecimalFormatterPreferences.{DecimalFormatterPreferences}
use Rattle.icu_dimension.specs.Loaded.{loaded_plural}
use Rattle.icu_table_entries.specs.Answering.{optional_answer}
use Rattle.icu_dimension_tables.specs.Answering.{names_answer}
use Rattle.decimal_lines.specs.ModeOfTables.{plain_options}
use Rattle.number_formatters.specs.Grouped.{strategy_of}
use Rattle.number_formatters.specs.Loaded.{names_loaded, preferences, symbols_for_money, system_digits}
use Rattle.number_formatters.specs.Settings.{FormSettings}
use Rattle.number_formatters.specs.declared.settings.FormGrouping.{FormGrouping}
use Rattle.number_formatters.proofs.loading.load_names.Goals as goal

pub returns : goal.returns
unfolding names_loaded
returns c =
    let tables = c.args.all.now.numbers in
    let dimension = c.args.all.now.dimension in
    let told : Option FormGrouping → DecimalFormatterPreferences → DecimalFormatterOptions → Type 0 = λ grouping prefs options.
    Answers c.try_new_unstable.result
    (loaded_plural (symbols_for_money grouping tables dimension) (system_digits tables) (optional_answer tables.rules)
    (names_answer dimension.placeholders dimension.symbols) prefs c.args.code options (λ f r x. record { formatter = f; rules = r; elements = x })) in
    subst (λ (w : FormSettings). told w.grouping (preferences c.args.settings.now) (plain_options (strategy_of w.grouping))) c.settings.view_is
    (subst (told c.settings.inside.grouping (preferences c.args.settings.now))
    (c.plain_options-options.ensures ∙ ap plain_options c.strategy_of.ensures)
    (subst (λ (prefs : DecimalFormatterPreferences). told c.settings.inside.grouping prefs c.plain_options-options.result)
    c.preferences-prefs.ensures c.try_new_unstable.ensures))
