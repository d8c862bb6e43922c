use Rattle.std.proofs.Common.{inl, inr, refl, arith}
use Rattle.fixed_decimal.specs.Size.{size, finest}
use Rattle.number_rounding.specs.Shown.{least_fraction_digits}
use Rattle.number_rounding.proofs.SignificandSteps.{least_count}
use Rattle.number_rounding.proofs.significand.significand_of.Goals as goal

pub returns-in-Err-clause-overflow : goal.returns-in-Err-clause-overflow
returns-in-Err-clause-overflow c over =
    let many = c.in-Err.ensures.overflow over in
    let least = least_count finest many.0 (least_fraction_digits c.args.rounding.now many.0) (omega arith) in
    inr (many.0, least.0, many.1, least.1, many.2 least.0 least.1.allowed)

pub returns-in-Err-Limit-clause-overflow : goal.returns-in-Err-Limit-clause-overflow
returns-in-Err-Limit-clause-overflow c over =
    let limit = rw c.in-Err-Limit.field-0-is at c.in-Err-Limit.ensures.limit in
    elim (limit.0 refl) [
      | inl many ↦ inl (omega (arith, many))
      | inr many ↦
          let s = size c.in-Ok.significand in
          let least = least_count finest s (least_fraction_digits c.args.rounding.now s) (omega arith) in
          inr (s, least.0, c.in-Ok.ensures.size, least.1, omega (arith, many, least.1.from))
    ]
