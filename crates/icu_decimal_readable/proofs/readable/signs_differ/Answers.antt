use Rattle.icu_decimal_readable.proofs.ReadableParts.{minus_shown, plus_shown, both_differ, signs_distinct, untrue, not_both, false_not_true}
use Rattle.icu_decimal_symbols.specs.LentTexts.{lent_texts}
use Rattle.icu_decimal_readable.proofs.readable.signs_differ.Goals as goal

pub returns-then-are_same_pair : goal.returns-then-are_same_pair
returns-then-are_same_pair c = (λ e. cc, λ h. absurd (minus_shown (lent_texts c.args.texts.now) h (c.are_same_pair.ensures.0 c.if-are_same_pair.true)))

pub returns-then-are_same_pair-2 : goal.returns-then-are_same_pair-2
returns-then-are_same_pair-2 c = (λ e. cc, λ h. absurd (plus_shown (lent_texts c.args.texts.now) h (c.are_same_pair-2.ensures.0 c.if-are_same_pair-2.true)))

pub returns : goal.returns
returns c = (
  λ e. signs_distinct (lent_texts c.args.texts.now)
      (λ same. false_not_true c.are_same_pair.result c.if-are_same_pair.false (c.are_same_pair.ensures.1 same))
      (λ same. false_not_true c.are_same_pair-2.result c.if-are_same_pair-2.false (c.are_same_pair-2.ensures.1 same))
      (λ same. not_both c.are_same_pair-3.result e (c.are_same_pair-3.ensures.1 same)),
  λ h. untrue c.are_same_pair-3.result (λ t. both_differ (lent_texts c.args.texts.now) h (c.are_same_pair-3.ensures.0 t)),
)
