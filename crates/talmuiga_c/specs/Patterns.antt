-- The range pattern that settings have in tables: where a pattern is filed, and the status if there is none.
use Rattle.std.specs.Prelude.{ℕ, Result}
use Rattle.icu_provider.specs.Answer.{Refusal}
use Rattle.icu_decimal.specs.Loaded.{preferably}
use Rattle.icu_decimal_options.specs.Preferences.{locale_id}
use Rattle.icu_range_tables.specs.RangeTables.{RangeData}
use Rattle.icu_ranges.specs.Separator.{Separator}
use Rattle.icu_table_entries.specs.Answering.{optional_answer}
use Rattle.number_formatters.specs.Loaded.{preferences}
use Rattle.number_formatters.specs.Settings.{FormSettings}
use Rattle.number_forms.specs.declared.error.StartError.{StartError}
use Rattle.number_forms.specs.declared.error.StartError.TheVariants as start
use Rattle.talmuiga_c.specs.Endings.{out_of_memory, tables_refused}

-- the pattern of the preferred numbering system in the locale, if it has one there, and else of the locale
abbrev pub pattern_loaded : FormSettings → RangeData → Result Separator Refusal
pattern_loaded settings tables = preferably (optional_answer tables.ranges) (preferences settings) (locale_id settings.locale)

-- there is no range pattern: tables have none for the locale, or a formatter was opened without one
abbrev pub no_pattern : ℕ
no_pattern = 10

-- the status of a pattern that isn't there
abbrev pub pattern_status : StartError → ℕ
pattern_status start.NotUtf8 = tables_refused
pattern_status (start.Refused e) = tables_refused
pattern_status start.NoData = no_pattern
pattern_status start.OutOfMemory = out_of_memory
