use Rattle.std.proofs.Common.{subst, sym, arith, IsTrue, ◌↔◌}
use Rattle.icu_decimal_readable.proofs.ReadableParts.{false_not_true}
use Rattle.icu_dimension.specs.MoneyReadable.{HasNoDigitAround, money_surroundings}
use Rattle.icu_ranges_readable.specs.ReadableRange.{IsReadableAmountRange, SignsStandBefore}
use Rattle.icu_ranges_readable.proofs.AmountFronts.{first_free, if_ok}
use Rattle.icu_ranges_readable.proofs.amounts.are_amount_ranges_readable.Goals as goal

pub returns-then-not-has_no_digit_around : goal.returns-then-not-has_no_digit_around
returns-then-not-has_no_digit_around c = (
  λ e. cc,
  λ h. absurd (false_not_true c.has_no_digit_around.result c.if-not-has_no_digit_around.true
      (c.has_no_digit_around.ensures.1 (subst (λ ds. HasNoDigitAround ds c.args.patterns.now) (sym c.digits-digits.ensures) h.around_free))),
)

pub do_signs_stand_before-requires : goal.do_signs_stand_before-requires
do_signs_stand_before-requires c = λ s.
    let ten = (c.is_apart.ensures.0 c.if-not-is_apart.false).readable.ten in
    let digits = c.digits-digits.ensures in
    first_free c.digits-digits.result.now (money_surroundings c.args.patterns.now s) (rw digits (omega (arith, ten)))
    (c.has_no_digit_around.ensures.0 c.if-not-has_no_digit_around.false s)

pub returns : goal.returns
returns c =
    let apart = c.is_apart.ensures.0 c.if-not-is_apart.false in
    let free = subst (λ ds. HasNoDigitAround ds c.args.patterns.now) c.digits-digits.ensures
    (c.has_no_digit_around.ensures.0 c.if-not-has_no_digit_around.false) in
    if_ok (λ b. IsTrue b ↔ SignsStandBefore (money_surroundings c.args.patterns.now))
    (λ b. IsTrue b ↔ IsReadableAmountRange (record { formatter = c.args.formatter.now; patterns = c.args.patterns.now }) c.args.pattern.now)
    c.do_signs_stand_before.result
    (λ b h. (λ e. record { apart = rw (sym c.separator.ensures) apart; around_free = free; signs_before = h.0 e }, λ all. h.1 all.signs_before))
    c.do_signs_stand_before.ensures
