use Rattle.std.proofs.Common.{arith, ◌*◌, ◌+◌, ap, ◌∙◌, sym, get_or}
use Rattle.icu_plurals.proofs.DigitNumbers.{number_small, number_after_more}
use Rattle.icu_plurals.proofs.whole_number.number.Goals as goal

pub overflow_mul-number : goal.overflow_mul-number
overflow_mul-number c =
    omega (arith, number_small c.args.digits.now c.loop-digit.digit-index c.requires.below_ten (omega arith) c.requires.few)

pub overflow_add-number : goal.overflow_add-number
overflow_add-number c =
    omega (
      arith,
      number_small c.args.digits.now c.loop-digit.digit-index c.requires.below_ten (omega arith) c.requires.few,
      c.type_inv.digits c.loop-digit.digit-index,
    )

pub loop-digit-preserved : goal.loop-digit-preserved
loop-digit-preserved c =
    ap (λ n. n * 10 + get_or c.args.digits.now c.loop-digit.digit-index 0) c.loop-digit.invariant
    ∙ sym (number_after_more 0 c.args.digits.now c.loop-digit.digit-index (omega arith))
