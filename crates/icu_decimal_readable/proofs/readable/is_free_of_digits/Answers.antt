use Rattle.icu_decimal_readable.proofs.readable.is_free_of_digits.Goals as goal

pub returns : goal.returns
returns c = (
  λ e. record {
    minus_prefix_free = c.has_no_digit.ensures.0 c.if-not-has_no_digit.false;
    minus_suffix_free = c.has_no_digit-2.ensures.0 c.if-not-has_no_digit-2.false;
    plus_prefix_free = c.has_no_digit-3.ensures.0 c.if-not-has_no_digit-3.false;
    plus_suffix_free = c.has_no_digit-4.ensures.0 c.if-not-has_no_digit-4.false;
    decimal_free = c.has_no_digit-5.ensures.0 c.if-not-has_no_digit-5.false;
    grouping_free = c.has_no_digit-6.ensures.0 e;
  },
  λ h. c.has_no_digit-6.ensures.1 h.grouping_free,
)
