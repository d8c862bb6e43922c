-- The mode that the arguments and the file of tables make.
use Rattle.std.specs.Prelude.{◌≡◌, ℕ, List, Option, Some, None, Result, Ok, Err}
use Rattle.icu_provider.specs.Answer.{Refusal}
use Rattle.icu_provider.specs.declared.error.DataErrorKind.{DataErrorKind}
use Rattle.icu_provider.specs.declared.error.DataErrorKind.TheVariants as refusal
use Rattle.icu_decimal.specs.Loaded.{loaded, loaded_compact}
use Rattle.icu_decimal.specs.declared.options.CompactDecimalFormatterOptions.{CompactDecimalFormatterOptions}
use Rattle.icu_decimal.specs.declared.options.DecimalFormatterOptions.{DecimalFormatterOptions}
use Rattle.icu_decimal.specs.declared.options.GroupingStrategy.{GroupingStrategy}
use Rattle.icu_decimal.specs.declared.options.GroupingStrategy.TheVariants.{Min2}
use Rattle.icu_decimal.specs.declared.preferences.CompactDecimalFormatterPreferences.{CompactDecimalFormatterPreferences}
use Rattle.icu_decimal.specs.declared.preferences.DecimalFormatterPreferences.{DecimalFormatterPreferences}
use Rattle.icu_decimal_data.specs.CompactTable.{TableEntry}
use Rattle.icu_table_entries.specs.Answering.{filed_answer, optional_answer}
use Rattle.icu_tables.specs.Digits.{system_answer}
use Rattle.icu_table_entries.specs.Named.{NamedEntry}
use Rattle.icu_tables.specs.Tables.{TablesData, tables_of}
use Rattle.icu_table_entries.specs.declared.error.TableError.{TableError}
use Rattle.decimal_lines.specs.Words.{WordsData}
use Rattle.decimal_lines.specs.declared.mode.Mode.{Mode}
use Rattle.decimal_lines.specs.declared.mode.Mode.TheVariants as mode
use Rattle.decimal_lines.specs.declared.mode.StartError.{StartError}
use Rattle.decimal_lines.specs.declared.mode.StartError.TheVariants as start
use Rattle.decimal_lines.specs.declared.words.Style.TheVariants as style

-- There is no mode for this reason; `OutOfMemory` may be reported in place of any result.
abbrev pub Stops : {X : Type 0} → StartError → Result X StartError → Type 0
Stops start.Tables made = made ≡ Err start.Tables
Stops start.NoData made = made ≡ Err start.NoData
Stops start.OutOfMemory made = Unit {0}

-- The result of a call is this; `OutOfMemory` may be reported in place of any result.
abbrev pub Starts : {X : Type 0} → Result X StartError → Result X StartError → Type 0
Starts (Ok x) made = made ≡ Ok x
Starts (Err e) made = Stops e made

-- the options of a strategy; without one the defaults: none for plain numbers, `min2` for compact ones
abbrev pub plain_options : Option GroupingStrategy → DecimalFormatterOptions
plain_options grouping = record { grouping_strategy = grouping }

-- and these for compact ones
abbrev pub compact_options : Option GroupingStrategy → CompactDecimalFormatterOptions
compact_options None = record { grouping_strategy = Some Min2 }
compact_options (Some strategy) = record { grouping_strategy = Some strategy }

-- the arguments' locale and system, for plain numbers
abbrev pub plain_preferences : WordsData → DecimalFormatterPreferences
plain_preferences words = record { locale_preferences = words.locale; numbering_system = words.system }

-- and for compact ones
abbrev pub compact_preferences : WordsData → CompactDecimalFormatterPreferences
compact_preferences words = record { locale_preferences = words.locale; numbering_system = words.system }

-- why there is no mode if the tables reject
abbrev pub start_error : DataErrorKind → StartError
start_error refusal.IdentifierNotFound = start.NoData
start_error refusal.MarkerNotFound = start.NoData
start_error refusal.InvalidRequest = start.NoData
start_error refusal.Custom = start.NoData
start_error refusal.OutOfMemory = start.OutOfMemory

-- the mode of a formatter, or why there is none
abbrev pub started : {X : Type 0} → (X → Mode) → Result X Refusal → Result Mode StartError
started mode_of (Ok formatter) = Ok (mode_of formatter)
started mode_of (Err refusal) = Err (start_error refusal.kind)

-- numbers in full
unfoldable pub plain_mode : WordsData → TablesData → Result Mode StartError
plain_mode words tables = started mode.Plain (loaded
    (filed_answer tables.symbols)
    (λ id. system_answer tables.digits id.system)
    (plain_preferences words) (plain_options words.grouping))

-- numbers shortened by patterns of these tables, which may have none
abbrev pub compact_mode : WordsData → TablesData → Option (List (NamedEntry (List TableEntry))) → Result Mode StartError
compact_mode words tables patterns = started mode.Compact (loaded_compact
    (filed_answer tables.symbols)
    (λ id. system_answer tables.digits id.system)
    (optional_answer tables.rules)
    (optional_answer patterns)
    (compact_preferences words) (compact_options words.grouping))

-- by the short patterns
unfoldable pub short_mode : WordsData → TablesData → Result Mode StartError
short_mode words tables = compact_mode words tables tables.short

-- by the long ones
unfoldable pub long_mode : WordsData → TablesData → Result Mode StartError
long_mode words tables = compact_mode words tables tables.long

-- by the style that is asked for
unfoldable pub mode_by : WordsData → TablesData → Result Mode StartError
mode_by words tables = elim words.style [
  | style.Plain ↦ plain_mode words tables
  | style.Short ↦ short_mode words tables
  | style.Long ↦ long_mode words tables
]

-- by the tables of a text, or what rejects it
abbrev pub mode_by_tables : WordsData → Result TablesData TableError → Result Mode StartError
mode_by_tables words (Ok tables) = mode_by words tables
mode_by_tables words (Err e) = Err start.Tables

-- by the text of the tables; if the text is rejected, there are no tables
unfoldable pub mode_of : WordsData → List ℕ → Result Mode StartError
mode_of words text = mode_by_tables words (tables_of text)
