use Rattle.fixed_decimal.specs.declared.signs.Sign.TheVariants.{None as NoSign, Negative, Positive}
use Rattle.icu_decimal_readable.proofs.ReadableParts.{false_not_true, not_both, untrue}
use Rattle.icu_dimension.proofs.AroundTested.{sign_distinct_around, signs_tested}
use Rattle.icu_dimension.proofs.readable.signs_differ.Goals as goal

pub returns-then-has_same_characters : goal.returns-then-has_same_characters
returns-then-has_same_characters c =
    let same = signs_tested c.args.patterns.now NoSign Negative c.for_sign-none.result c.for_sign-minus.result c.has_same_characters.result
    c.for_sign-none.ensures c.for_sign-minus.ensures c.has_same_characters.ensures in
    (λ e. cc, λ h. let one = h NoSign Negative (same.0 c.if-has_same_characters.true) in cc)

pub returns-then-has_same_characters-2 : goal.returns-then-has_same_characters-2
returns-then-has_same_characters-2 c =
    let same = signs_tested c.args.patterns.now NoSign Positive c.for_sign-none.result c.for_sign-plus.result c.has_same_characters-2.result
    c.for_sign-none.ensures c.for_sign-plus.ensures c.has_same_characters-2.ensures in
    (λ e. cc, λ h. let one = h NoSign Positive (same.0 c.if-has_same_characters-2.true) in cc)

pub returns : goal.returns
returns c =
    let p = c.args.patterns.now in
    let m = signs_tested p NoSign Negative c.for_sign-none.result c.for_sign-minus.result c.has_same_characters.result c.for_sign-none.ensures
    c.for_sign-minus.ensures c.has_same_characters.ensures in
    let n = signs_tested p NoSign Positive c.for_sign-none.result c.for_sign-plus.result c.has_same_characters-2.result c.for_sign-none.ensures
    c.for_sign-plus.ensures c.has_same_characters-2.ensures in
    let b = signs_tested p Negative Positive c.for_sign-minus.result c.for_sign-plus.result c.has_same_characters-3.result c.for_sign-minus.ensures
    c.for_sign-plus.ensures c.has_same_characters-3.ensures in (
      λ e. sign_distinct_around p (λ same. false_not_true c.has_same_characters.result c.if-has_same_characters.false (m.1 same))
          (λ same. false_not_true c.has_same_characters-2.result c.if-has_same_characters-2.false (n.1 same))
          (λ same. not_both c.has_same_characters-3.result e (b.1 same)),
      λ h. untrue c.has_same_characters-3.result (λ t. let one = h Negative Positive (b.0 t) in cc),
    )
