use Rattle.std.proofs.Common.{◌≡◌, ◌++◌, drop}
use Rattle.icu_dimension_data.proofs.compact_rows.rows_copy.Given as goal

-- what is copied and what is left make all rows
abbrev pub invariant-loop-index : goal.invariant-loop-index
invariant-loop-index l = l.copied.items ++ drop l.index l.rows ≡ l.rows
