use Rattle.std.proofs.Common.{◌∙◌, arith}
use Rattle.std.proofs.lemmas.Int.{ints}
use Rattle.fixed_decimal.specs.Size.{size}
use Rattle.number_rounding.proofs.SignificandSteps.{times_down, too_many_below}
use Rattle.number_rounding.proofs.significand.over_ten_to.Goals as goal

pub returns-in-Ok-clause-size : goal.returns-in-Ok-clause-size
returns-in-Ok-clause-size c =
    times_down _ c.args.exponent (size c.trimmed_end.result) (size c.in-Ok.significand) (omega (arith, ints)) c.in-Ok.ensures.size ∙
    c.trimmed_end.ensures.size

pub returns-in-Err-default-Limit-clause-overflow : goal.returns-in-Err-default-Limit-clause-overflow
returns-in-Err-default-Limit-clause-overflow c over =
    let past = c.in-Err-default-Limit.ensures.limit.0 c.in-Err-default-Limit.field-0-1-is in
    let many = too_many_below c.trimmed_end.result c.args.exponent c.trimmed_end.ensures.valid c.trimmed_end.ensures.last (omega arith) _ (omega (arith, ints))
    past in
    (many.0, many.1 ∙ c.trimmed_end.ensures.size, many.2)
