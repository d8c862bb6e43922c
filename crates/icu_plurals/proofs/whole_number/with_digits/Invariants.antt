use Rattle.std.proofs.Common.{take}
use Rattle.icu_plurals.proofs.DigitNumbers.{IsReadAfter}
use Rattle.icu_plurals.proofs.whole_number.with_digits.Given as goal

abbrev pub invariant-loop-digit : goal.invariant-loop-digit
invariant-loop-digit l = IsReadAfter l.fn.whole (take l.digit-index l.digits) l.whole
