-- What formatters of money, percents and units are made of: the answers of a provider, in the order in which it is asked.
use Rattle.std.specs.Prelude.{ℕ, List, Some, Result, Ok}
use Rattle.icu_provider.specs.Answer.{Refusal}
use Rattle.icu_provider.specs.Identifier.{Identifier}
use Rattle.icu_plurals.specs.Rules.{Rule}
use Rattle.icu_decimal_data.specs.Decided.{or_else}
use Rattle.icu_decimal_data.specs.CompactTable.{TableEntry}
use Rattle.icu_decimal_data.specs.declared.decimal_symbols.DecimalSymbols.{DecimalSymbols}
use Rattle.icu_decimal.specs.CompactFormat.{CompactFormat}
use Rattle.icu_decimal.specs.Decimal.{DecimalFormat}
use Rattle.icu_decimal.specs.Loaded.{Provider, and_then, preferably, loaded, loaded_compact}
use Rattle.icu_decimal_options.specs.Preferences.{locale_id}
use Rattle.icu_decimal_options.specs.declared.options.CompactDecimalFormatterOptions.{CompactDecimalFormatterOptions}
use Rattle.icu_decimal_options.specs.declared.options.DecimalFormatterOptions.{DecimalFormatterOptions}
use Rattle.icu_decimal_options.specs.declared.preferences.CompactDecimalFormatterPreferences.{CompactDecimalFormatterPreferences}
use Rattle.icu_decimal_options.specs.declared.preferences.DecimalFormatterPreferences.{DecimalFormatterPreferences}
use Rattle.icu_dimension_data.specs.Resolved.{Signed}
use Rattle.icu_dimension.specs.CompactMoney.{CompactMoney, compact_money}
use Rattle.icu_dimension.specs.CurrencyData.{MoneyPatterns, SymbolTexts, money_patterns}
use Rattle.icu_dimension.specs.Money.{SignedFormat}
use Rattle.icu_dimension_data.specs.SignedTables.{tables_for}
use Rattle.icu_dimension_data.specs.declared.compact_rows.CompactRow.{CompactRow}
use Rattle.icu_dimension.specs.declared.options.CurrencyFormatterOptions.{CurrencyFormatterOptions}
use Rattle.icu_dimension.specs.declared.options.CurrencySign.TheVariants.{Standard}
use Rattle.icu_dimension.specs.declared.options.Width.TheVariants.{Short}

-- what is asked for by a name in the locale: by a currency's code, or by a unit
abbrev pub named_id : List ℕ → List ℕ → Identifier
named_id name locale = record { system = Some name; locale = locale }

-- for an identifier the symbols for numbers of money, if there are any, and else those for numbers
abbrev pub money_symbols : Provider DecimalSymbols → Provider DecimalSymbols → Provider DecimalSymbols
money_symbols money plain id = or_else (money id) (plain id)

-- amounts with a symbol: the plain formatter, then the patterns by the preferred system in the locale, or else by the
-- locale, then the symbols by the currency's code in the locale; or the first error
abbrev pub loaded_currency : Provider DecimalSymbols → Provider (List ℕ) → Provider MoneyPatterns → Provider SymbolTexts
    → DecimalFormatterPreferences → List ℕ → CurrencyFormatterOptions → Result (SignedFormat DecimalFormat) Refusal
loaded_currency symbols digits patterns currencies prefs code options =
    let locale = prefs.locale_preferences in
    and_then (loaded symbols digits prefs options.decimal) (λ f.
    and_then (preferably patterns prefs (locale_id locale)) (λ p.
    and_then (currencies (named_id code locale)) (λ s.
    Ok (record { formatter = f; patterns = money_patterns f.digits p s code options }))))

-- percents or permilles: the plain formatter, then the patterns by the preferred system in the locale, or else by the locale; or the
-- first error
abbrev pub loaded_percent : Provider DecimalSymbols → Provider (List ℕ) → Provider Signed
    → DecimalFormatterPreferences → DecimalFormatterOptions → Result (SignedFormat DecimalFormat) Refusal
loaded_percent symbols digits patterns prefs options =
    and_then (loaded symbols digits prefs options) (λ f.
    and_then (preferably patterns prefs (locale_id prefs.locale_preferences)) (λ p.
    Ok (record { formatter = f; patterns = p })))

-- what depends on plural categories: the plain formatter, then the rules by the locale, then the data of this name in the
-- locale; or the first error
abbrev pub loaded_plural : {X Y : Type 0} → Provider DecimalSymbols → Provider (List ℕ) → Provider (List Rule) → Provider X
    → DecimalFormatterPreferences → List ℕ → DecimalFormatterOptions → (DecimalFormat → List Rule → X → Y) → Result Y Refusal
loaded_plural symbols digits rules named prefs name options made =
    let locale = prefs.locale_preferences in
    and_then (loaded symbols digits prefs options) (λ f.
    and_then (rules (locale_id locale)) (λ r.
    and_then (named (named_id name locale)) (λ x.
    Ok (made f r x))))

-- the same over compact numbers: the compact formatter, then the rules, then the data of this name
abbrev pub loaded_compact_plural : {X Y : Type 0} → Provider DecimalSymbols → Provider (List ℕ) → Provider (List Rule)
    → Provider (List TableEntry) → Provider X → CompactDecimalFormatterPreferences → List ℕ → CompactDecimalFormatterOptions
    → (CompactFormat → List Rule → X → Y) → Result Y Refusal
loaded_compact_plural symbols digits rules compact named prefs name options made =
    let locale = prefs.locale_preferences in
    and_then (loaded_compact symbols digits rules compact prefs options) (λ f.
    and_then (rules (locale_id locale)) (λ r.
    and_then (named (named_id name locale)) (λ x.
    Ok (made f r x))))

-- compact amounts: the formatter of money, then the rules by the locale, then the compact patterns by the preferred system in
-- the locale, or else by the locale, of which tables are made with the symbol and the signs of the formatter of money; or the
-- first error
abbrev pub loaded_compact_amounts : Provider DecimalSymbols → Provider (List ℕ) → Provider MoneyPatterns → Provider SymbolTexts
    → Provider (List Rule) → Provider (List CompactRow) → DecimalFormatterPreferences → List ℕ → CurrencyFormatterOptions
    → Result CompactMoney Refusal
loaded_compact_amounts symbols digits patterns currencies rules compact prefs code options =
    let locale = prefs.locale_preferences in
    and_then (loaded_currency symbols digits patterns currencies prefs code options) (λ m.
    and_then (rules (locale_id locale)) (λ r.
    and_then (preferably compact prefs (locale_id locale)) (λ rows.
    and_then (tables_for m.formatter.digits m.patterns.texts rows) (λ t.
    Ok (compact_money m r t)))))

-- the same with the short symbol and the standard pattern
abbrev pub loaded_compact_money : Provider DecimalSymbols → Provider (List ℕ) → Provider MoneyPatterns → Provider SymbolTexts
    → Provider (List Rule) → Provider (List CompactRow) → DecimalFormatterPreferences → List ℕ → DecimalFormatterOptions
    → Result CompactMoney Refusal
loaded_compact_money symbols digits patterns currencies rules compact prefs code options =
    loaded_compact_amounts symbols digits patterns currencies rules compact prefs code
    (record { decimal = options; width = Short; sign = Standard })
