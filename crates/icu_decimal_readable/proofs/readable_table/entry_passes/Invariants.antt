use Rattle.std.proofs.Common.{ℕ, ◌<◌, slice_get}
use Rattle.icu_decimal_readable.proofs.ReadableTables.{HoldsAtSlot}
use Rattle.icu_decimal_readable.proofs.readable_table.entry_passes.Given as goal

-- the patterns in the slots so far pass
abbrev pub invariant-loop-slot : goal.invariant-loop-slot
invariant-loop-slot g l = (k : ℕ) → k < l.slot → HoldsAtSlot (g.T.PatternTest.holds l.test) (slice_get l.patterns l.index) k
