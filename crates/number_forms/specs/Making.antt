-- The form that is wanted, by the text of the tables.
use Rattle.std.specs.Prelude.{◌≡◌, ℕ, List, Result, Ok, Err}
use Rattle.icu_provider.specs.Answer.{Refusal}
use Rattle.icu_provider.specs.declared.error.DataErrorKind.{DataErrorKind}
use Rattle.icu_provider.specs.declared.error.DataErrorKind.TheVariants as refusal
use Rattle.icu_table_entries.specs.declared.error.TableError.{TableError}
use Rattle.icu_table_entries.specs.declared.error.TableError.TheVariants as table
use Rattle.icu_tables.specs.Tables.{TablesData, tables_of}
use Rattle.icu_decimal.specs.Loaded.{and_then}
use Rattle.icu_dimension_tables.specs.AllTables.{all_tables_of}
use Rattle.icu_dimension_tables.specs.DimensionTables.{DimensionData}
use Rattle.number_formatters.specs.Loaded.{compact_money_options, long_loaded, money_loaded, money_options, money_short_loaded, named_by_notation}
use Rattle.number_formatters.specs.Loaded.{percent_loaded, permille_loaded, plain_loaded, short_loaded, unit_by_notation}
use Rattle.number_formatters.specs.Settings.{FormSettings, unit_text}
use Rattle.number_formatters.specs.declared.formatter.LoadedFormatter.{LoadedFormatter}
use Rattle.number_formatters.specs.declared.settings.Kind.TheVariants.{Plain, Short, Long, Money, MoneyNamed, MoneyShort, Percent, Permille, Unit as WithUnit}
use Rattle.number_forms.specs.Forms.{FormData}
use Rattle.number_forms.specs.declared.error.StartError.{StartError}
use Rattle.number_forms.specs.declared.error.StartError.TheVariants as start

-- There is no form for this reason; `OutOfMemory` may be reported in place of any result.
abbrev pub StopsForm : {X : Type 0} → StartError → Result X StartError → Type 0
StopsForm start.NotUtf8 made = made ≡ Err start.NotUtf8
StopsForm (start.Refused e) made = made ≡ Err (start.Refused e)
StopsForm start.NoData made = made ≡ Err start.NoData
StopsForm start.OutOfMemory made = Unit {0}

-- The result of a call is this; `OutOfMemory` may be reported in place of any result.
abbrev pub StartsForm : {X : Type 0} → Result X StartError → Result X StartError → Type 0
StartsForm (Ok x) made = made ≡ Ok x
StartsForm (Err e) made = StopsForm e made

-- why there is no form if the tables reject
abbrev pub start_error : DataErrorKind → StartError
start_error refusal.IdentifierNotFound = start.NoData
start_error refusal.MarkerNotFound = start.NoData
start_error refusal.InvalidRequest = start.NoData
start_error refusal.Custom = start.NoData
start_error refusal.OutOfMemory = start.OutOfMemory

-- why there is no form if a text is rejected
abbrev pub table_error : TableError → StartError
table_error table.NotJson = start.Refused table.NotJson
table_error table.Float = start.Refused table.Float
table_error (table.Missing key) = start.Refused (table.Missing key)
table_error (table.WrongKind key) = start.Refused (table.WrongKind key)
table_error (table.Entry key index fault) = start.Refused (table.Entry key index fault)
table_error table.OutOfMemory = start.OutOfMemory

-- what tables answer, or why there is nothing
abbrev pub started : {X : Type 0} → Result X Refusal → Result X StartError
started (Ok x) = Ok x
started (Err refusal) = Err (start_error refusal.kind)

-- what is made of tables that were read, or what rejects them
abbrev pub read_then : {X Y : Type 0} → Result X TableError → (X → Result Y StartError) → Result Y StartError
read_then (Ok x) next = next x
read_then (Err e) next = Err (start.Refused e)

-- the form of settings with a formatter that tables make
abbrev pub form_with : FormSettings → LoadedFormatter → FormData
form_with settings loaded = record {
  scale = settings.scale;
  rounding = loaded.rounding;
  sign = settings.sign;
  formatter = loaded.formatter;
}

-- the form of settings with what tables answer, or why there is none
abbrev pub form_started : FormSettings → Result LoadedFormatter Refusal → Result FormData StartError
form_started settings answer = started (and_then answer (λ loaded. Ok (form_with settings loaded)))

-- the form of settings by the tables of numbers of a text
abbrev pub with_tables : FormSettings → List ℕ → (TablesData → Result LoadedFormatter Refusal) → Result FormData StartError
with_tables settings text load = read_then (tables_of text) (λ tables. form_started settings (load tables))

-- the form of settings by all tables of a text
abbrev pub with_all : FormSettings → List ℕ → (TablesData → DimensionData → Result LoadedFormatter Refusal) → Result FormData StartError
with_all settings text load = read_then (all_tables_of text) (λ all. form_started settings (load all.numbers all.dimension))

-- the form that is wanted, by the text of the tables; those of money, percents and units are read where they are asked
unfoldable pub form_of : FormSettings → List ℕ → Result FormData StartError
form_of settings text = elim settings.kind [
  | Plain ↦ with_tables settings text (plain_loaded settings)
  | Short ↦ with_tables settings text (short_loaded settings)
  | Long ↦ with_tables settings text (long_loaded settings)
  | Money code width sign is_cash ↦ with_all settings text (money_loaded settings code (money_options settings.grouping width sign) is_cash)
  | MoneyNamed code is_cash notation ↦ with_all settings text (named_by_notation notation settings code is_cash)
  | MoneyShort code width sign ↦ with_all settings text (money_short_loaded settings code (compact_money_options settings.grouping width sign))
  | Percent ↦ with_all settings text (percent_loaded settings)
  | Permille ↦ with_all settings text (permille_loaded settings)
  | WithUnit unit width notation ↦ with_all settings text (unit_by_notation notation settings (unit_text unit) width)
]
