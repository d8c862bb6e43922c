use Rattle.fixed_decimal.specs.declared.signs.Sign.TheVariants.{None as NoSign, Negative, Positive}
use Rattle.icu_decimal_readable.proofs.ReadableParts.{false_not_true}
use Rattle.icu_decimal_readable.proofs.ReadableTables.{each_sign}
use Rattle.icu_decimal_readable.specs.Readable.{IsFreeOfDigits}
use Rattle.icu_dimension.specs.MoneyReadable.{money_surroundings}
use Rattle.icu_dimension.proofs.AroundTested.{free_tested}
use Rattle.icu_ranges_readable.proofs.amounts.has_no_digit_around.Goals as goal

pub returns-then-not-has_none_of : goal.returns-then-not-has_none_of
returns-then-not-has_none_of c =
    let none = free_tested c.args.digits.now c.args.patterns.now NoSign c.for_sign.result c.has_none_of.result c.for_sign.ensures c.has_none_of.ensures in
    (λ e. cc, λ h. absurd (false_not_true c.has_none_of.result c.if-not-has_none_of.true (none.1 (h NoSign))))

pub returns-then-not-has_none_of-2 : goal.returns-then-not-has_none_of-2
returns-then-not-has_none_of-2 c =
    let minus = free_tested c.args.digits.now c.args.patterns.now Negative c.for_sign-2.result c.has_none_of-2.result c.for_sign-2.ensures
    c.has_none_of-2.ensures in
    (λ e. cc, λ h. absurd (false_not_true c.has_none_of-2.result c.if-not-has_none_of-2.true (minus.1 (h Negative))))

pub returns : goal.returns
returns c =
    let digits = c.args.digits.now in
    let patterns = c.args.patterns.now in
    let none = free_tested digits patterns NoSign c.for_sign.result c.has_none_of.result c.for_sign.ensures c.has_none_of.ensures in
    let minus = free_tested digits patterns Negative c.for_sign-2.result c.has_none_of-2.result c.for_sign-2.ensures c.has_none_of-2.ensures in
    let plus = free_tested digits patterns Positive c.for_sign-3.result c.has_none_of-3.result c.for_sign-3.ensures c.has_none_of-3.ensures in (
      λ e. each_sign (λ s. IsFreeOfDigits digits (money_surroundings patterns s)) (none.0 c.if-not-has_none_of.false)
          (minus.0 c.if-not-has_none_of-2.false) (plus.0 e),
      λ h. plus.1 (h Positive),
    )
