use Rattle.std.proofs.Common.{arith}
use Rattle.icu_plurals.proofs.DigitNumbers.{IsReadAfter-more}
use Rattle.icu_plurals.proofs.whole_number.with_digits.Goals as goal

pub loop-digit-preserved : goal.loop-digit-preserved
loop-digit-preserved c =
    IsReadAfter-more _ _ _ c.args.digits.now c.loop-digit.digit-index (omega arith) c.loop-digit.invariant c.with_digit-whole.ensures.seen
    c.with_digit-whole.ensures.digit
