use Rattle.std.proofs.Common.{ℕ, ◌<◌, slice_get, IfSome}
use Rattle.icu_decimal_readable.specs.ReadableTable.{HoldsOfEntry}
use Rattle.icu_decimal_readable.proofs.readable_table.all_pass.Given as goal

-- the patterns of the entries so far pass
abbrev pub invariant-loop-index : goal.invariant-loop-index
invariant-loop-index g l = (k : ℕ) → k < l.index → IfSome (slice_get l.patterns k) (HoldsOfEntry (g.T.PatternTest.holds l.test))
