use Rattle.std.proofs.Common.{refl, ap, ◌∙◌, ◌≡◌, take, min, length, rules}
use Rattle.fixed_decimal.specs.Unsigned.{fraction}
use Rattle.icu_plurals.specs.WholeNumber.{whole_number}
use Rattle.icu_plurals.proofs.DigitNumbers.{number_after_moving}
use Rattle.icu_plurals.proofs.operands.whole_part.Goals as goal

pub returns : goal.returns
returns c =
    let passed : c.split_at.result.0.now ≡ take (min (length (fraction c.args.significand.now)) c.args.places) (fraction c.args.significand.now) =
    search rules in
    let integer = c.with_digits-integer.ensures.digits 0 refl in
    let whole = c.with_digits-whole.ensures.digits _ integer in
    c.with_zeros.ensures.zeros _ whole ∙ ap whole_number (rw c.integer.ensures.digits (number_after_moving c.args.places c.args.significand.now _ passed))
