-- The keys of a document.
use Rattle.std.specs.Prelude.{ℕ, List, codes}
use Rattle.icu_table_entries.specs.declared.error.Key.{Key}
use Rattle.icu_table_entries.specs.declared.error.Key.TheVariants.{Document, Symbols, Digits, Rules, Short, Long, Locale, System}
use Rattle.icu_table_entries.specs.declared.error.Key.TheVariants.{Minus, Plus, Decimal, Group, Numsys}
use Rattle.icu_table_entries.specs.declared.error.Key.TheVariants.{Sizes, Patterns, ExplicitZero, ExplicitOne, Zero, One, Two, Few, Many, Other}
use Rattle.icu_table_entries.specs.declared.error.Key.TheVariants.{CurrencyDigits, Percents, Units, Currencies, CurrencySymbols, CurrencyDecimals}
use Rattle.icu_table_entries.specs.declared.error.Key.TheVariants.{CurrencyCompact, Pattern, Percent, Width, Unit, Standard, Accounting, Names}
use Rattle.icu_table_entries.specs.declared.error.Key.TheVariants.{Ordinals, Permille, Ranges, PluralRanges, Approximately}

-- as the document spells them
abbrev pub name_of : Key → List ℕ
name_of Document = codes ""
name_of Symbols = codes "symbols"
name_of Digits = codes "digits"
name_of Rules = codes "rules"
name_of Short = codes "short"
name_of Long = codes "long"
name_of Locale = codes "locale"
name_of System = codes "system"
name_of Minus = codes "minus"
name_of Plus = codes "plus"
name_of Decimal = codes "decimal"
name_of Group = codes "group"
name_of Numsys = codes "numsys"
name_of Sizes = codes "sizes"
name_of Patterns = codes "patterns"
name_of ExplicitZero = codes "explicit_zero"
name_of ExplicitOne = codes "explicit_one"
name_of Zero = codes "zero"
name_of One = codes "one"
name_of Two = codes "two"
name_of Few = codes "few"
name_of Many = codes "many"
name_of Other = codes "other"
name_of CurrencyDigits = codes "currency_digits"
name_of Percents = codes "percents"
name_of Units = codes "units"
name_of Currencies = codes "currencies"
name_of CurrencySymbols = codes "currency_symbols"
name_of CurrencyDecimals = codes "currency_decimals"
name_of CurrencyCompact = codes "currency_compact"
name_of Pattern = codes "pattern"
name_of Percent = codes "percent"
name_of Width = codes "width"
name_of Unit = codes "unit"
name_of Standard = codes "standard"
name_of Accounting = codes "accounting"
name_of Names = codes "names"
name_of Ordinals = codes "ordinals"
name_of Permille = codes "permille"
name_of Ranges = codes "ranges"
name_of PluralRanges = codes "plural_ranges"
name_of Approximately = codes "approximately"
