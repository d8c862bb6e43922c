use Rattle.fixed_decimal.specs.declared.signs.Sign.TheVariants.{Negative, Positive, None as NoSign}
use Rattle.icu_decimal_symbols.specs.LentTexts.{lent_texts}
use Rattle.icu_decimal_readable.specs.ReadableTable.{surroundings_of, AreDistinct}
use Rattle.icu_decimal_readable.proofs.ReadableParts.{false_not_true}
use Rattle.icu_decimal_readable.proofs.ReadableTables.{each_sign, distinct_as}
use Rattle.icu_decimal_readable.proofs.readable_table.is_distinct_from.Goals as goal

pub returns-then-not-are_distinct : goal.returns-then-not-are_distinct
returns-then-not-are_distinct c =
    let distinct = distinct_as (lent_texts c.args.texts.now) c.args.first c.with_sign.result (record c.args.second { sign = NoSign }) c.are_distinct.result
    c.with_sign.ensures c.are_distinct.ensures in
    (λ e. cc, λ h. absurd (false_not_true c.are_distinct.result c.if-not-are_distinct.true (distinct.1 (h NoSign))))

pub returns-then-not-are_distinct-2 : goal.returns-then-not-are_distinct-2
returns-then-not-are_distinct-2 c =
    let distinct = distinct_as (lent_texts c.args.texts.now) c.args.first c.with_sign-2.result (record c.args.second { sign = Negative })
    c.are_distinct-2.result
    c.with_sign-2.ensures c.are_distinct-2.ensures in
    (λ e. cc, λ h. absurd (false_not_true c.are_distinct-2.result c.if-not-are_distinct-2.true (distinct.1 (h Negative))))

pub returns : goal.returns
returns c =
    let texts = lent_texts c.args.texts.now in
    let first = c.args.first in
    let second = c.args.second in
    let none = distinct_as texts first c.with_sign.result (record second { sign = NoSign }) c.are_distinct.result c.with_sign.ensures c.are_distinct.ensures in
    let minus = distinct_as texts first c.with_sign-2.result (record second { sign = Negative }) c.are_distinct-2.result c.with_sign-2.ensures
    c.are_distinct-2.ensures in
    let plus = distinct_as texts first c.with_sign-3.result (record second { sign = Positive }) c.are_distinct-3.result c.with_sign-3.ensures
    c.are_distinct-3.ensures in (
      λ e. each_sign (λ t. AreDistinct texts first.sign first.exponent (surroundings_of first.sides) t second.exponent (surroundings_of second.sides))
          (none.0 c.if-not-are_distinct.false)
          (minus.0 c.if-not-are_distinct-2.false)
          (plus.0 e),
      λ h. plus.1 (h Positive),
    )
