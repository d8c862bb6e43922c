use Rattle.std.proofs.Common.{◌≡◌, drop}
use Rattle.icu_dimension_tables.specs.CurrencySymbols.{rows_of_locale}
use Rattle.icu_dimension_tables.proofs.currency_symbols.rows_of_locale.Given as goal

-- the entries that are left decide
abbrev pub invariant-loop-entry : goal.invariant-loop-entry
invariant-loop-entry l = rows_of_locale l.locale (drop l.entry-index l.entries) ≡ rows_of_locale l.locale l.entries
