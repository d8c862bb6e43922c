use Rattle.std.proofs.Common.{◌≡◌, drop}
use Rattle.icu_dimension_tables.specs.CurrencyDigits.{default_digits}
use Rattle.icu_dimension_tables.proofs.currency_digits.default_digits.Given as goal

-- the rows that are left decide
abbrev pub invariant-loop-row : goal.invariant-loop-row
invariant-loop-row l = default_digits (drop l.row-index l.rows) ≡ default_digits l.rows
