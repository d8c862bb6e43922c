use Rattle.std.proofs.Common.{replicate}
use Rattle.icu_plurals.proofs.DigitNumbers.{IsReadAfter}
use Rattle.icu_plurals.proofs.whole_number.with_zeros.Given as goal

abbrev pub invariant-loop : goal.invariant-loop
invariant-loop l = IsReadAfter l.fn.whole (replicate l.counter 0) l.whole
