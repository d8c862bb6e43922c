use Rattle.fixed_decimal.specs.declared.signs.Sign.TheVariants.{Negative, Positive, None as NoSign}
use Rattle.icu_pattern.specs.Patterns.{PatternText}
use Rattle.icu_decimal_symbols.specs.LentTexts.{lent_texts}
use Rattle.icu_decimal_readable.specs.Readable.{sides}
use Rattle.icu_decimal_readable.specs.ReadableTable.{surroundings_of, IsDistinctThroughout}
use Rattle.icu_decimal_readable.specs.declared.readable_table.Number.{Number}
use Rattle.icu_decimal_readable.proofs.ReadableParts.{false_not_true}
use Rattle.icu_decimal_readable.proofs.ReadableTables.{each_sign, distinct_of, distinct_by_sides, distinct_throughout_as}
use Rattle.icu_decimal_readable.proofs.readable_table.DistinctPatternTest.passes.Goals as goal

pub returns-then-not-is_distinct : goal.returns-then-not-is_distinct
returns-then-not-is_distinct c =
    let p : PatternText = record { placeholder = c.args.placeholder; literal = c.args.literal.now } in
    let distinct = distinct_by_sides (lent_texts c.args.self.now.texts.now) c.args.self.now.patterns.now NoSign c.args.exponent p
    (surroundings_of c.sides_of.result)
    c.sides_of.ensures in
    (λ e. cc, λ h. absurd (false_not_true c.is_distinct.result c.if-not-is_distinct.true (c.is_distinct.ensures.1 (distinct h))))

pub returns-then-not-is_distinct-2 : goal.returns-then-not-is_distinct-2
returns-then-not-is_distinct-2 c =
    let p : PatternText = record { placeholder = c.args.placeholder; literal = c.args.literal.now } in
    let texts = lent_texts c.args.self.now.texts.now in
    let table = c.args.self.now.patterns.now in
    let meant : Number = record { sign = Negative; exponent = c.args.exponent; sides = c.sides_of.result } in
    let minus = distinct_throughout_as texts table c.with_sign.result meant c.is_distinct-2.result c.with_sign.ensures c.is_distinct-2.ensures in
    let distinct = distinct_by_sides texts table Negative c.args.exponent p (surroundings_of c.sides_of.result) c.sides_of.ensures in
    (λ e. cc, λ h. absurd (false_not_true c.is_distinct-2.result c.if-not-is_distinct-2.true (minus.1 (distinct h))))

pub returns : goal.returns
returns c =
    let p : PatternText = record { placeholder = c.args.placeholder; literal = c.args.literal.now } in
    let texts = lent_texts c.args.self.now.texts.now in
    let table = c.args.self.now.patterns.now in
    let a = surroundings_of c.sides_of.result in
    let m = c.args.exponent in
    let is = c.sides_of.ensures in
    let negative : Number = record { sign = Negative; exponent = m; sides = c.sides_of.result } in
    let positive : Number = record { sign = Positive; exponent = m; sides = c.sides_of.result } in
    let minus = distinct_throughout_as texts table c.with_sign.result negative c.is_distinct-2.result c.with_sign.ensures c.is_distinct-2.ensures in
    let plus = distinct_throughout_as texts table c.with_sign-2.result positive c.is_distinct-3.result c.with_sign-2.ensures c.is_distinct-3.ensures in (
      λ e. each_sign (λ s. IsDistinctThroughout texts table s m (sides p))
          (distinct_of texts table NoSign m p a is (c.is_distinct.ensures.0 c.if-not-is_distinct.false))
          (distinct_of texts table Negative m p a is (minus.0 c.if-not-is_distinct-2.false))
          (distinct_of texts table Positive m p a is (plus.0 e)),
      λ h. plus.1 (distinct_by_sides texts table Positive m p a is h),
    )
