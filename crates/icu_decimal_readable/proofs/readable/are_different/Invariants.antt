use Rattle.std.proofs.Common.{◌≢◌, ℕ, ◌<◌, slice_index_or}
use Rattle.icu_decimal_readable.proofs.readable.are_different.Given as goal

abbrev pub invariant-loop-index : goal.invariant-loop-index
invariant-loop-index l = (a b d : ℕ) → a < b → b < l.index → slice_index_or l.digits a d ≢ slice_index_or l.digits b d
