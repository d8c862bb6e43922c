use Rattle.std.proofs.Common.{◌≡◌, drop}
use Rattle.icu_dimension_tables.specs.CurrencySymbols.{row_of_code}
use Rattle.icu_dimension_tables.proofs.currency_symbols.row_of_code.Given as goal

-- the rows that are left decide
abbrev pub invariant-loop-row : goal.invariant-loop-row
invariant-loop-row l = row_of_code l.code (drop l.row-index l.rows) ≡ row_of_code l.code l.rows
