use Rattle.fixed_decimal.specs.declared.signs.Sign.TheVariants.{None as NoSign, Negative, Positive}
use Rattle.icu_decimal_readable.proofs.ReadableParts.{false_not_true}
use Rattle.icu_decimal_readable.proofs.ReadableTables.{each_sign}
use Rattle.icu_dimension.proofs.AroundTested.{DiffersFromEach, each_tested}
use Rattle.icu_dimension.proofs.readable.differ_around.Goals as goal

pub returns-then-not-differs_from_each : goal.returns-then-not-differs_from_each
returns-then-not-differs_from_each c =
    let none = each_tested c.args.one.now c.args.other.now NoSign c.for_sign.result c.differs_from_each.result c.for_sign.ensures
    c.differs_from_each.ensures in
    (λ e. cc, λ h. absurd (false_not_true c.differs_from_each.result c.if-not-differs_from_each.true (none.1 (h NoSign))))

pub returns-then-not-differs_from_each-2 : goal.returns-then-not-differs_from_each-2
returns-then-not-differs_from_each-2 c =
    let minus = each_tested c.args.one.now c.args.other.now Negative c.for_sign-2.result c.differs_from_each-2.result c.for_sign-2.ensures
    c.differs_from_each-2.ensures in
    (λ e. cc, λ h. absurd (false_not_true c.differs_from_each-2.result c.if-not-differs_from_each-2.true (minus.1 (h Negative))))

pub returns : goal.returns
returns c =
    let p = c.args.one.now in
    let q = c.args.other.now in
    let none = each_tested p q NoSign c.for_sign.result c.differs_from_each.result c.for_sign.ensures c.differs_from_each.ensures in
    let minus = each_tested p q Negative c.for_sign-2.result c.differs_from_each-2.result c.for_sign-2.ensures c.differs_from_each-2.ensures in
    let plus = each_tested p q Positive c.for_sign-3.result c.differs_from_each-3.result c.for_sign-3.ensures c.differs_from_each-3.ensures in (
      λ e. each_sign (λ s. DiffersFromEach p q s) (none.0 c.if-not-differs_from_each.false) (minus.0 c.if-not-differs_from_each-2.false) (plus.0 e),
      λ h. plus.1 (h Positive),
    )
