-- Tables for the arguments' locale make the same mode as all tables.
use Rattle.std.proofs.Common.{◌≡◌, ℕ, List, Option, Some, None, Result, Ok, Err, codes, refl, sym, ap, ◌∙◌}
use Rattle.icu_provider.specs.Answer.{Refusal}
use Rattle.icu_provider.specs.Identifier.{Identifier}
use Rattle.icu_decimal.specs.Loaded.{Provider, and_then, digits_loaded, loaded, loaded_compact, preferably, symbols_loaded}
use Rattle.icu_decimal.specs.declared.options.CompactDecimalFormatterOptions.{CompactDecimalFormatterOptions}
use Rattle.icu_decimal.specs.declared.options.DecimalFormatterOptions.{DecimalFormatterOptions}
use Rattle.icu_decimal_data.specs.declared.decimal_symbols.DecimalSymbols.{DecimalSymbols}
use Rattle.icu_decimal_data.specs.CompactTable.{TableEntry}
use Rattle.icu_table_entries.specs.Answering.{filed_answer, optional_answer}
use Rattle.icu_tables.specs.Digits.{system_answer}
use Rattle.icu_tables.specs.ForLocale.{AnswersAs, IsFor}
use Rattle.icu_table_entries.specs.Named.{NamedEntry}
use Rattle.icu_tables.specs.Tables.{TablesData, tables_of}
use Rattle.decimal_lines.specs.ModeOfTables.{compact_options, long_mode, mode_by, mode_by_tables, mode_of, plain_mode, plain_options, short_mode, started}
use Rattle.decimal_lines.specs.Words.{WordsData}
use Rattle.decimal_lines.specs.declared.mode.Mode.{Mode}
use Rattle.decimal_lines.specs.declared.mode.Mode.TheVariants as mode
use Rattle.decimal_lines.specs.declared.mode.StartError.{StartError}
use Rattle.decimal_lines.specs.declared.words.Style.{Style}
use Rattle.decimal_lines.specs.declared.words.Style.TheVariants as style

-- the same answer, and the same made of each
pub and_then_both : {X Y : Type 0} (r s : Result X Refusal) (f g : X → Result Y Refusal) → r ≡ s → ((x : X) → f x ≡ g x)
    → and_then r f ≡ and_then s g
and_then_both {X = X} r s f g same each = ap (λ a. and_then a f) same ∙ go s
  where
    go : (a : Result X Refusal) → and_then a f ≡ and_then a g
    go (Ok x) = each x
    go (Err refusal) = refl

-- the preferred identifier and the other one are answered alike
pub preferably_same : {X : Type 0} (p q : Provider X) (locale : List ℕ) (system : Option (List ℕ)) (other : Identifier)
    → ((s : List ℕ) → p (record { system = Some s; locale = locale }) ≡ q (record { system = Some s; locale = locale })) → p other ≡ q other
    → preferably p (record { locale_preferences = locale; numbering_system = system }) other ≡ preferably q (record {
      locale_preferences = locale;
      numbering_system = system;
    }) other
preferably_same p q locale None other preferred same = same
preferably_same p q locale (Some s) other preferred same = rw (preferred s, same) refl

module _ (locale : List ℕ) (system : Option (List ℕ)) (kept all : TablesData) (results : AnswersAs locale kept all) where
  -- the symbols are the same
  pub symbols_same : symbols_loaded (filed_answer kept.symbols) (record {
    locale_preferences = locale;
    numbering_system = system;
  }) ≡ symbols_loaded (filed_answer all.symbols) (record { locale_preferences = locale; numbering_system = system })
  symbols_same = preferably_same (filed_answer kept.symbols) (filed_answer all.symbols) locale system (record {
    system = None;
    locale = locale;
  }) (λ s. results.symbols _ refl) (results.symbols _ refl)

  -- and so are the digits
  pub digits_same : (s : DecimalSymbols)
      → digits_loaded (λ id. system_answer kept.digits id.system) (record { locale_preferences = locale; numbering_system = system }) s
      ≡ digits_loaded (λ id. system_answer all.digits id.system) (record { locale_preferences = locale; numbering_system = system }) s
  digits_same s = preferably_same (λ id. system_answer kept.digits id.system) (λ id. system_answer all.digits id.system) locale system
      (record { system = Some s.strings.numsys; locale = codes "und" }) (λ x. results.digits (Some x)) (results.digits (Some s.strings.numsys))

  -- so the plain formatter is
  pub loaded_same : (options : DecimalFormatterOptions)
      → loaded (filed_answer kept.symbols) (λ id. system_answer kept.digits id.system) (record {
        locale_preferences = locale;
        numbering_system = system;
      }) options
      ≡ loaded (filed_answer all.symbols) (λ id. system_answer all.digits id.system) (record {
        locale_preferences = locale;
        numbering_system = system;
      }) options
  loaded_same options = and_then_both _ _ _ _ symbols_same (λ s. and_then_both _ _ _ _ (digits_same s) (λ d. refl))

  -- with patterns that answer alike by each identifier of the locale
  pub compact_loaded : (one other : Option (List (NamedEntry (List TableEntry))))
      → ((id : Identifier) → id.locale ≡ locale → optional_answer one id ≡ optional_answer other id) → (options : CompactDecimalFormatterOptions)
      → loaded_compact (filed_answer kept.symbols) (λ id. system_answer kept.digits id.system) (optional_answer kept.rules) (optional_answer one)
      (record { locale_preferences = locale; numbering_system = system }) options
      ≡ loaded_compact (filed_answer all.symbols) (λ id. system_answer all.digits id.system) (optional_answer all.rules) (optional_answer other)
      (record { locale_preferences = locale; numbering_system = system }) options
  compact_loaded one other alike options = and_then_both _ _ _ _ (loaded_same (record { grouping_strategy = options.grouping_strategy })) (λ f.
      and_then_both _ _ _ _ (results.rules _ refl) (λ r.
      and_then_both _ _ _ _ (preferably_same (optional_answer one) (optional_answer other) locale system (record {
        system = None;
        locale = locale;
      }) (λ s. alike _ refl) (alike _ refl)) (λ t. refl)))

module _ (words : WordsData) (kept all : TablesData) (results : AnswersAs words.locale kept all) where
  plain_same : plain_mode words kept ≡ plain_mode words all
  unfolding plain_mode
  plain_same = ap (started mode.Plain) (loaded_same words.locale words.system kept all results (plain_options words.grouping))

  short_same : short_mode words kept ≡ short_mode words all
  unfolding short_mode
  short_same = ap (started mode.Compact) (compact_loaded words.locale words.system kept all results kept.short all.short results.short
      (compact_options words.grouping))

  long_same : long_mode words kept ≡ long_mode words all
  unfolding long_mode
  long_same = ap (started mode.Compact) (compact_loaded words.locale words.system kept all results kept.long all.long results.long
      (compact_options words.grouping))

  -- the mode of a style
  abbrev by : TablesData → Style → Result Mode StartError
  by tables s = elim s [
    | style.Plain ↦ plain_mode words tables
    | style.Short ↦ short_mode words tables
    | style.Long ↦ long_mode words tables
  ]

  by_same : (s : Style) → by kept s ≡ by all s
  by_same style.Plain = plain_same
  by_same style.Short = short_same
  by_same style.Long = long_same

  mode_by_same : mode_by words kept ≡ mode_by words all
  unfolding mode_by
  mode_by_same = by_same words.style

-- tables for the locale of the arguments make the mode of the text
pub mode_for : (words : WordsData) (text : List ℕ) (kept : TablesData) → IsFor words.locale kept (tables_of text)
    → mode_of words text ≡ mode_by words kept
unfolding mode_of
mode_for words text kept (all, read, results) = ap (mode_by_tables words) read ∙ sym (mode_by_same words kept all results)
