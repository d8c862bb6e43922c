use Rattle.std.proofs.Common.{sym, ◌∙◌}
use Rattle.std.proofs.lemmas.Str.{chars-nil}
use Rattle.icu_decimal_readable.proofs.ReadableParts.{untrue, not_both, false_not_true}
use Rattle.icu_decimal_readable.proofs.readable.are_separators_distinct.Goals as goal

pub returns-then-has_same_characters : goal.returns-then-has_same_characters
returns-then-has_same_characters c = (λ e. cc, λ h. absurd (h.decimal_some (c.has_same_characters.ensures.0 c.if-has_same_characters.true ∙ chars-nil)))

pub returns : goal.returns
returns c = (
  λ e. record {
    decimal_some = λ none. false_not_true c.has_same_characters.result c.if-has_same_characters.false
        (c.has_same_characters.ensures.1 (none ∙ sym chars-nil));
    separators_differ = λ same. not_both c.has_same_characters-2.result e (c.has_same_characters-2.ensures.1 same);
  },
  λ h. untrue c.has_same_characters-2.result (λ t. h.separators_differ (c.has_same_characters-2.ensures.0 t)),
)
