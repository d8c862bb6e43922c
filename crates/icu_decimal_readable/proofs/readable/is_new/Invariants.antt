use Rattle.std.proofs.Common.{◌≢◌, ℕ, ◌<◌, slice_index_or}
use Rattle.icu_decimal_readable.proofs.readable.is_new.Given as goal

abbrev pub invariant-loop-before : goal.invariant-loop-before
invariant-loop-before l = (a d : ℕ) → a < l.before → slice_index_or l.digits a d ≢ slice_index_or l.digits l.index d
