use Rattle.std.proofs.Common.{◌≡◌, ◌∙◌, ap, drop, take, min, length, rules}
use Rattle.fixed_decimal.specs.Unsigned.{fraction}
use Rattle.icu_plurals.proofs.DigitNumbers.{take-min, drop-min}
use Rattle.icu_plurals.proofs.operands.seen_fraction.Goals as goal

pub returns-clause-digits : goal.returns-clause-digits
returns-clause-digits c =
    let behind : c.split_at.result.1.now ≡ drop (min (length (fraction c.args.significand.now)) c.args.places) (fraction c.args.significand.now) =
    search rules in
    let seen : c.split_at-2.result.0.now ≡ take (min (length c.split_at.result.1.now) 18) c.split_at.result.1.now = search rules in
    seen ∙ take-min _ 18 ∙ ap (take 18) (behind ∙ drop-min (fraction c.args.significand.now) c.args.places)

-- Goals that a search finds; it is not tried longer where one is false.
pub returns-clause-below_ten : goal.returns-clause-below_ten
returns-clause-below_ten c = search rules
