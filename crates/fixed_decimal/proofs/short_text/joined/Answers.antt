use Rattle.std.proofs.Common.{◌≡◌, ◌++◌, ◌+◌, arith, length, take}
use Rattle.fixed_decimal.specs.Text.{digit_values, integer_of}
use Rattle.fixed_decimal.proofs.Numerals.{text_valid}
use Rattle.fixed_decimal.proofs.ShortTexts.{both_values}
use Rattle.fixed_decimal.proofs.short_text.joined.Goals as goal

pub returns-clause-digits : goal.returns-clause-digits
returns-clause-digits c = both_values c.args.integer.now c.args.fraction.now _ _ _ c.requires.lanes.1 c.requires.some c.requires.integer_digits
    c.requires.fraction_digits c.values_of.ensures

pub returns-clause-valid : goal.returns-clause-valid
returns-clause-valid c =
    let e : take (length c.args.integer.now + length c.args.fraction.now) c.values_of.result ≡ integer_of (digit_values c.args.integer.now)
    ++ digit_values c.args.fraction.now = both_values c.args.integer.now c.args.fraction.now _ _ _ c.requires.lanes.1 c.requires.some
    c.requires.integer_digits c.requires.fraction_digits c.values_of.ensures in
    rw e (text_valid c.args.integer.now c.args.fraction.now c.requires.integer_digits c.requires.fraction_digits (omega (arith, c.requires.room))
    (omega (arith, c.requires.room)))
