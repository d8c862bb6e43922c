use Rattle.icu_pattern.specs.Patterns.{PatternText}
use Rattle.icu_decimal_symbols.specs.LentTexts.{lent_texts}
use Rattle.icu_decimal_readable.specs.ReadableTable.{surroundings_of}
use Rattle.icu_decimal_readable.proofs.ReadableTables.{distinct_from_of}
use Rattle.icu_decimal_readable.proofs.readable_table.DistinctFromPatternTest.passes.Goals as goal

pub returns : goal.returns
returns c =
    let q : PatternText = record { placeholder = c.args.placeholder; literal = c.args.literal.now } in
    let number = c.args.self.now.number in
    distinct_from_of (lent_texts c.args.self.now.texts.now) number.sign number.exponent (surroundings_of number.sides) c.args.exponent q
    (surroundings_of c.sides_of.result) c.is_distinct_from.result c.sides_of.ensures c.is_distinct_from.ensures
