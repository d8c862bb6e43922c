use Rattle.std.proofs.Common.{◌≡◌, drop}
use Rattle.icu_dimension_tables.specs.CurrencyCompact.{compact_rows_of}
use Rattle.icu_dimension_tables.proofs.currency_compact.compact_rows_of.Given as goal
use Rattle.icu_table_entries.proofs.Lists.{with_front}

-- what is read and what is left make all rows
abbrev pub invariant-loop-index : goal.invariant-loop-index
invariant-loop-index l = with_front l.found.items (compact_rows_of l.position l.before (drop l.index l.entries)) ≡ compact_rows_of l.position 0 l.entries
