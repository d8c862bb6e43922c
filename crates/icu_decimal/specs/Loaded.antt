-- What formatters are made of: the answers of a provider, in the order in which it is asked (ICU4X, the constructors
-- `try_new_unstable`, `try_new_short_unstable` and `try_new_long_unstable`).
use Rattle.std.specs.Prelude.{ℕ, List, map, codes, Some, Result, Ok, Err}
use Rattle.icu_provider.specs.Answer.{Refusal}
use Rattle.icu_provider.specs.Identifier.{Identifier}
use Rattle.icu_plurals.specs.Rules.{Rule}
use Rattle.icu_decimal_data.specs.CompactTable.{TableEntry}
use Rattle.icu_decimal_data.specs.Decided.{decided}
use Rattle.icu_decimal_data.specs.declared.decimal_symbols.DecimalSymbols.{DecimalSymbols}
use Rattle.icu_decimal.specs.CompactFormat.{CompactFormat}
use Rattle.icu_decimal.specs.Decimal.{DecimalFormat}
use Rattle.icu_decimal_options.specs.Preferences.{asked, locale_id, plain_preferences, preferred_id}
use Rattle.icu_decimal_options.specs.declared.options.DecimalFormatterOptions.{DecimalFormatterOptions}
use Rattle.icu_decimal_options.specs.declared.options.CompactDecimalFormatterOptions.{CompactDecimalFormatterOptions}
use Rattle.icu_decimal_options.specs.declared.preferences.DecimalFormatterPreferences.{DecimalFormatterPreferences}
use Rattle.icu_decimal_options.specs.declared.preferences.CompactDecimalFormatterPreferences.{CompactDecimalFormatterPreferences}

-- what a provider answers by each identifier
abbrev pub Provider : Type 0 → Type 0
Provider X = Identifier → Result X Refusal

-- what is made of an answer, or its error
abbrev pub and_then : {X Y : Type 0} → Result X Refusal → (X → Result Y Refusal) → Result Y Refusal
and_then (Ok x) next = next x
and_then (Err refusal) next = Err refusal

-- the answer by the preferred system in the locale, where one is preferred, or else by another identifier
abbrev pub preferably : {X : Type 0} → Provider X → DecimalFormatterPreferences → Identifier → Result X Refusal
preferably provider prefs other =
    decided (map provider (asked (preferred_id prefs.numbering_system prefs.locale_preferences) other))

-- the symbols by the preferred system in the locale, or else by the locale
abbrev pub symbols_loaded : Provider DecimalSymbols → DecimalFormatterPreferences → Result DecimalSymbols Refusal
symbols_loaded symbols prefs = preferably symbols prefs (locale_id prefs.locale_preferences)

-- the digits by the preferred system in the locale, or else by the system that the symbols name, which is asked in the
-- undetermined locale
abbrev pub digits_loaded : Provider (List ℕ) → DecimalFormatterPreferences → DecimalSymbols → Result (List ℕ) Refusal
digits_loaded digits prefs symbols =
    preferably digits prefs (record { system = Some symbols.strings.numsys; locale = codes "und" })

-- the plain formatter: symbols, then digits, with the options; or the first error
abbrev pub loaded : Provider DecimalSymbols → Provider (List ℕ) → DecimalFormatterPreferences → DecimalFormatterOptions → Result DecimalFormat Refusal
loaded symbols digits prefs options =
    and_then (symbols_loaded symbols prefs) (λ s.
    and_then (digits_loaded digits prefs s) (λ d.
    Ok (record { symbols = s; digits = d; options = options })))

-- the compact formatter: the plain one, then plural rules by the locale, then patterns by the preferred system in the
-- locale, or else by the locale; or the first error
abbrev pub loaded_compact : Provider DecimalSymbols → Provider (List ℕ) → Provider (List Rule) → Provider (List TableEntry) →
    CompactDecimalFormatterPreferences → CompactDecimalFormatterOptions → Result CompactFormat Refusal
loaded_compact symbols digits rules patterns prefs options =
    let plain = plain_preferences prefs in
    let locale = locale_id prefs.locale_preferences in
    and_then (loaded symbols digits plain (record { grouping_strategy = options.grouping_strategy })) (λ f.
    and_then (rules locale) (λ r.
    and_then (preferably patterns plain locale) (λ t.
    Ok (record { decimal = f; rules = r; table = t }))))
