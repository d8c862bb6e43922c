use Rattle.std.proofs.Common.{Option, subst}
use Rattle.icu_provider.specs.Answer.{Answers}
use Rattle.icu_decimal.specs.declared.preferences.DecimalFormatterPreferences.{DecimalFormatterPreferences}
use Rattle.icu_dimension.specs.Loaded.{loaded_currency}
use Rattle.icu_table_entries.specs.Answering.{optional_answer}
use Rattle.icu_dimension_tables.specs.Answering.{symbols_answer}
use Rattle.number_formatters.specs.Loaded.{currency_loaded, preferences, symbols_for_money, system_digits}
use Rattle.number_formatters.specs.Settings.{FormSettings}
use Rattle.number_formatters.specs.declared.settings.FormGrouping.{FormGrouping}
use Rattle.number_formatters.proofs.loading.load_currency.Goals as goal

pub returns : goal.returns
unfolding currency_loaded
returns c =
    let tables = c.args.all.now.numbers in
    let dimension = c.args.all.now.dimension in
    let told : Option FormGrouping → DecimalFormatterPreferences → Type 0 = λ grouping prefs. Answers c.try_new_unstable.result
    (loaded_currency (symbols_for_money grouping tables dimension) (system_digits tables) (optional_answer dimension.currencies)
    (symbols_answer dimension.symbols) prefs c.args.code c.args.options) in
    subst (λ (w : FormSettings). told w.grouping (preferences c.args.settings.now)) c.settings.view_is
    (subst (told c.settings.inside.grouping) c.preferences-prefs.ensures c.try_new_unstable.ensures)
