use Rattle.fixed_decimal.specs.declared.signs.Sign.TheVariants.{None as NoSign, Negative, Positive}
use Rattle.icu_decimal_readable.proofs.ReadableParts.{false_not_true, not_both, untrue}
use Rattle.icu_decimal_readable.proofs.ReadableTables.{each_sign}
use Rattle.icu_dimension_data.specs.Comparing.{HaveSameCharacters}
use Rattle.icu_dimension.proofs.AroundTested.{lent_tested, of_sign}
use Rattle.icu_dimension.proofs.readable.differs_from_each.Goals as goal

pub returns-then-has_same_characters : goal.returns-then-has_same_characters
returns-then-has_same_characters c =
    let none = lent_tested c.args.patterns.now NoSign c.args.pattern.now c.for_sign.result c.has_same_characters.result c.for_sign.ensures
    c.has_same_characters.ensures in
    (λ e. cc, λ h. absurd (h NoSign (none.0 c.if-has_same_characters.true)))

pub returns-then-has_same_characters-2 : goal.returns-then-has_same_characters-2
returns-then-has_same_characters-2 c =
    let minus = lent_tested c.args.patterns.now Negative c.args.pattern.now c.for_sign-2.result c.has_same_characters-2.result c.for_sign-2.ensures
    c.has_same_characters-2.ensures in
    (λ e. cc, λ h. absurd (h Negative (minus.0 c.if-has_same_characters-2.true)))

pub returns : goal.returns
returns c =
    let q = c.args.patterns.now in
    let a = c.args.pattern.now in
    let none = lent_tested q NoSign a c.for_sign.result c.has_same_characters.result c.for_sign.ensures c.has_same_characters.ensures in
    let minus = lent_tested q Negative a c.for_sign-2.result c.has_same_characters-2.result c.for_sign-2.ensures c.has_same_characters-2.ensures in
    let plus = lent_tested q Positive a c.for_sign-3.result c.has_same_characters-3.result c.for_sign-3.ensures c.has_same_characters-3.ensures in (
      λ e. each_sign (λ t. ¬ (HaveSameCharacters a (of_sign q t)))
          (λ same. false_not_true c.has_same_characters.result c.if-has_same_characters.false (none.1 same))
          (λ same. false_not_true c.has_same_characters-2.result c.if-has_same_characters-2.false (minus.1 same))
          (λ same. not_both c.has_same_characters-3.result e (plus.1 same)),
      λ h. untrue c.has_same_characters-3.result (λ t. h Positive (plus.0 t)),
    )
