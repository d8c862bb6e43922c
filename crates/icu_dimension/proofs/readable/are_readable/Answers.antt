use Rattle.std.proofs.Common.{ℕ, List, sym, subst}
use Rattle.icu_decimal_readable.proofs.ReadableParts.{false_not_true}
use Rattle.icu_dimension.specs.MoneyReadable.{HasNoDigitAround}
use Rattle.icu_dimension.proofs.readable.are_readable.Goals as goal

pub returns-then-not-is_readable : goal.returns-then-not-is_readable
returns-then-not-is_readable c =
    (λ e. cc, λ h. absurd (false_not_true c.is_readable.result c.if-not-is_readable.true (c.is_readable.ensures.1 h.numbers_readable)))

pub returns-then-not-has_no_digit_around : goal.returns-then-not-has_no_digit_around
returns-then-not-has_no_digit_around c = (
  λ e. cc,
  λ h. absurd (false_not_true c.has_no_digit_around.result c.if-not-has_no_digit_around.true
      (c.has_no_digit_around.ensures.1
      (subst (λ (ds : List ℕ). HasNoDigitAround ds c.args.patterns.now) (sym c.digits.ensures) h.around_readable.free))),
)

pub returns : goal.returns
returns c = (
  λ e. record {
    numbers_readable = c.is_readable.ensures.0 c.if-not-is_readable.false;
    around_readable = record {
      free = subst (λ (ds : List ℕ). HasNoDigitAround ds c.args.patterns.now) c.digits.ensures
          (c.has_no_digit_around.ensures.0 c.if-not-has_no_digit_around.false);
      sign_distinct = c.signs_differ.ensures.0 e;
    };
  },
  λ h. c.signs_differ.ensures.1 h.around_readable.sign_distinct,
)
