use Rattle.icu_decimal_symbols.specs.LentTexts.{lent_texts}
use Rattle.icu_decimal_readable.proofs.ReadableParts.{readable_of, free_of, false_not_true}
use Rattle.icu_decimal_readable.proofs.readable.are_readable.Goals as goal

pub returns-then-not-is_free_of_digits : goal.returns-then-not-is_free_of_digits
returns-then-not-is_free_of_digits c = (
  λ e. cc,
  λ h. absurd (false_not_true c.is_free_of_digits.result c.if-not-is_free_of_digits.true
      (c.is_free_of_digits.ensures.1 (free_of (lent_texts c.args.texts.now) c.args.digits.now h))),
)

pub returns : goal.returns
returns c = (
  λ e. readable_of (lent_texts c.args.texts.now) c.args.digits.now (search c.told-digits) (c.are_different.ensures.0 c.if-not-are_different.false)
      (c.is_free_of_digits.ensures.0 c.if-not-is_free_of_digits.false) (c.are_separators_distinct.ensures.0 c.if-not-are_separators_distinct.false)
      (c.signs_differ.ensures.0 e),
  λ h. c.signs_differ.ensures.1 h.sign_distinct,
)
