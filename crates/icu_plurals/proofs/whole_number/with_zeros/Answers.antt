use Rattle.icu_plurals.proofs.DigitNumbers.{IsReadAfter-more_zeros}
use Rattle.icu_plurals.proofs.whole_number.with_zeros.Goals as goal

pub loop-preserved : goal.loop-preserved
loop-preserved c =
    IsReadAfter-more_zeros _ _ _ c.loop.counter c.loop.invariant c.with_digit-whole.ensures.seen c.with_digit-whole.ensures.digit
