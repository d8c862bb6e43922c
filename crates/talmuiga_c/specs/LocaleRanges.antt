-- What tables say of ranges for the locale of settings: the range pattern and the plural categories of ranges, or why there is no pattern.
use Rattle.std.specs.Prelude.{ℕ, List, [], Option, Some, None, Result, Ok, Err}
use Rattle.icu_provider.specs.Answer.{Refusal}
use Rattle.icu_decimal_options.specs.Preferences.{locale_id}
use Rattle.icu_range_tables.specs.RangeTables.{RangeData, range_tables_of}
use Rattle.icu_ranges.specs.Separator.{Separator}
use Rattle.icu_ranges.specs.declared.plural_ranges.PluralRange.{PluralRange}
use Rattle.icu_table_entries.specs.Answering.{optional_answer}
use Rattle.number_formatters.specs.Settings.{FormSettings}
use Rattle.number_forms.specs.Making.{read_then, started}
use Rattle.number_forms.specs.declared.error.StartError.{StartError}
use Rattle.number_forms.specs.declared.error.StartError.TheVariants as start
use Rattle.talmuiga_c.specs.Asked.{text_in}
use Rattle.talmuiga_c.specs.Patterns.{pattern_loaded}
use Rattle.talmuiga_c.specs.declared.locale_ranges.LocaleRanges.{LocaleRanges}

-- what tables answer, or no categories
abbrev pub or_none : Result (List PluralRange) Refusal → List PluralRange
or_none (Ok ranges) = ranges
or_none (Err refusal) = []

-- the categories of the locale; none where the tables have none for it, or none at all
abbrev pub categories_loaded : FormSettings → RangeData → List PluralRange
categories_loaded settings tables = or_none (optional_answer tables.plural_ranges (locale_id settings.locale))

-- a pattern with these categories
abbrev pub with_categories : List PluralRange → Result Separator StartError → Result LocaleRanges StartError
with_categories categories (Ok pattern) = Ok (record { pattern = pattern; plural_ranges = categories })
with_categories categories (Err error) = Err error

-- pattern and categories of the locale
abbrev pub ranges_loaded : FormSettings → RangeData → Result LocaleRanges StartError
ranges_loaded settings tables = with_categories (categories_loaded settings tables) (started (pattern_loaded settings tables))

-- the same in a text of tables, whose two keys of ranges are judged
abbrev pub ranges_in : FormSettings → List ℕ → Result LocaleRanges StartError
ranges_in settings text = read_then (range_tables_of text) (λ tables. ranges_loaded settings tables)

-- the same of bytes, if they are a text
abbrev pub ranges_in_text : FormSettings → Option (List ℕ) → Result LocaleRanges StartError
ranges_in_text settings None = Err start.NotUtf8
ranges_in_text settings (Some text) = ranges_in settings text

-- the same in the bytes of a file of tables
unfoldable pub ranges_asked : FormSettings → List ℕ → Result LocaleRanges StartError
ranges_asked settings tables = ranges_in_text settings (text_in tables)
