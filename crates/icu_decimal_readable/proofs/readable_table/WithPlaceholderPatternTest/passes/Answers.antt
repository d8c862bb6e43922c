use Rattle.std.proofs.Common.{rules, IsSome}
use Rattle.icu_pattern.specs.Patterns.{PatternText}
use Rattle.icu_decimal_readable.specs.ReadableTable.{surroundings_of}
use Rattle.icu_decimal_readable.proofs.ReadableParts.{false_not_true}
use Rattle.icu_decimal_readable.proofs.ReadableTables.{has_placeholder_of, sides_with_placeholder}
use Rattle.icu_decimal_readable.proofs.readable_table.WithPlaceholderPatternTest.passes.Goals as goal

pub returns-then-not-has_no_digit : goal.returns-then-not-has_no_digit
returns-then-not-has_no_digit c =
    let p : PatternText = record { placeholder = c.args.placeholder; literal = c.args.literal.now } in (
      λ e. cc,
      λ h. absurd (false_not_true c.has_no_digit.result c.if-not-has_no_digit.true
          (c.has_no_digit.ensures.1 (sides_with_placeholder c.args.self.now.digits.now p (surroundings_of c.sides_of-sides.result) c.sides_of-sides.ensures
          h).before_free)),
    )

pub returns : goal.returns
returns c =
    let p : PatternText = record { placeholder = c.args.placeholder; literal = c.args.literal.now } in
    let a = surroundings_of c.sides_of-sides.result in
    let some : IsSome c.args.placeholder = search rules in (
      λ e. has_placeholder_of c.args.self.now.digits.now p a c.sides_of-sides.ensures some (c.has_no_digit.ensures.0 c.if-not-has_no_digit.false)
          (c.has_no_digit-2.ensures.0 e),
      λ h. c.has_no_digit-2.ensures.1 (sides_with_placeholder c.args.self.now.digits.now p a c.sides_of-sides.ensures h).after_free,
    )
