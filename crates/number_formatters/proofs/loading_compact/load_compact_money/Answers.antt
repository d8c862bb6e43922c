use Rattle.std.proofs.Common.{Option, subst}
use Rattle.icu_provider.specs.Answer.{Answers}
use Rattle.icu_decimal.specs.declared.preferences.DecimalFormatterPreferences.{DecimalFormatterPreferences}
use Rattle.icu_dimension.specs.Loaded.{loaded_compact_amounts}
use Rattle.icu_table_entries.specs.Answering.{optional_answer}
use Rattle.icu_dimension_tables.specs.Answering.{symbols_answer}
use Rattle.number_formatters.specs.Loaded.{compact_money_loaded, preferences, symbols_for_money, system_digits}
use Rattle.number_formatters.specs.Settings.{FormSettings}
use Rattle.number_formatters.specs.declared.settings.FormGrouping.{FormGrouping}
use Rattle.number_formatters.proofs.loading_compact.load_compact_money.Goals as goal

pub returns : goal.returns
unfolding compact_money_loaded
returns c =
    let tables = c.args.all.now.numbers in
    let dimension = c.args.all.now.dimension in
    let told : Option FormGrouping → DecimalFormatterPreferences → Type 0 = λ grouping prefs.
    Answers c.try_new_with_options_unstable.result
    (loaded_compact_amounts (symbols_for_money grouping tables dimension) (system_digits tables) (optional_answer dimension.currencies)
    (symbols_answer dimension.symbols) (optional_answer tables.rules) (optional_answer dimension.compact) prefs c.args.code c.args.options) in
    subst (λ (w : FormSettings). told w.grouping (preferences c.args.settings.now)) c.settings.view_is
    (subst (told c.settings.inside.grouping) c.preferences-prefs.ensures c.try_new_with_options_unstable.ensures)
