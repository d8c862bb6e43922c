use Rattle.std.proofs.Common.{ℕ, List, sym, subst}
use Rattle.icu_decimal_readable.proofs.ReadableParts.{false_not_true}
use Rattle.icu_dimension.specs.MoneyReadable.{HasNoDigitAround}
use Rattle.icu_dimension.proofs.readable.are_told_apart.Goals as goal

pub returns-then-not-has_no_digit_around : goal.returns-then-not-has_no_digit_around
returns-then-not-has_no_digit_around c = (
  λ e. cc,
  λ h. absurd (false_not_true c.has_no_digit_around.result c.if-not-has_no_digit_around.true
      (c.has_no_digit_around.ensures.1
      (subst (λ (ds : List ℕ). HasNoDigitAround ds c.args.patterns.now) (sym c.digits.ensures) h.one_free))),
)

pub returns-then-not-has_no_digit_around-2 : goal.returns-then-not-has_no_digit_around-2
returns-then-not-has_no_digit_around-2 c = (
  λ e. cc,
  λ h. absurd (false_not_true c.has_no_digit_around-2.result c.if-not-has_no_digit_around-2.true
      (c.has_no_digit_around-2.ensures.1
      (subst (λ (ds : List ℕ). HasNoDigitAround ds c.args.other_patterns.now) (sym c.digits-2.ensures) h.other_free))),
)

pub returns : goal.returns
returns c = (
  λ e. record {
    same_numbers = c.are_equal.ensures.0 c.if-not-are_equal.false;
    numbers_readable = c.is_readable.ensures.0 c.if-not-is_readable.false;
    one_free = subst (λ (ds : List ℕ). HasNoDigitAround ds c.args.patterns.now) c.digits.ensures
        (c.has_no_digit_around.ensures.0 c.if-not-has_no_digit_around.false);
    other_free = subst (λ (ds : List ℕ). HasNoDigitAround ds c.args.other_patterns.now) c.digits-2.ensures
        (c.has_no_digit_around-2.ensures.0 c.if-not-has_no_digit_around-2.false);
    differ = c.differ_around.ensures.0 e;
  },
  λ h. c.differ_around.ensures.1 h.differ,
)
