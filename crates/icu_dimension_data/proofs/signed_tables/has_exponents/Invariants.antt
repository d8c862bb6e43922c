use Rattle.std.proofs.Common.{◌≡◌, drop}
use Rattle.icu_dimension_data.specs.SignedTables.{has_exponents}
use Rattle.icu_dimension_data.proofs.signed_tables.has_exponents.Given as goal

-- the rows that are left decide
abbrev pub invariant-loop-index : goal.invariant-loop-index
invariant-loop-index l = has_exponents l.table (drop l.index l.rows) ≡ has_exponents l.table l.rows
