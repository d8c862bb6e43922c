use Rattle.std.proofs.Common.{refl}
use Rattle.fixed_decimal.specs.Unsigned.{Unsigned}
use Rattle.fixed_decimal.specs.declared.error.DecimalError.{DecimalError}
use Rattle.fixed_decimal.specs.declared.error.DecimalError.TheVariants.{Limit}
use Rattle.scaled_units.specs.declared.scaling.Shown.{Shown}
use Rattle.scaled_units.proofs.Results.{IfOk-two, other_result}
use Rattle.scaled_units.proofs.Bounds.{never_past}
use Rattle.fixed_decimal.specs.Size.{size}
use Rattle.fixed_decimal.specs.Modes.{size_mode}
use Rattle.scaled_units.proofs.scaling.size_shown.Goals as goal

pub returns-in-Ok-clause-scaled : goal.returns-in-Ok-clause-scaled
returns-in-Ok-clause-scaled c =
    IfOk-two c.quotient_shown.result _ _ _
    (λ r s w. record {
      k = c.power_of-power.result;
      power_is = c.power_of-power.ensures.power;
      quotient = size c.in-Ok.quotient;
      exact = c.in-Ok.ensures.quotient;
      rounded = s.0;
      taken = s.1;
      carried = s.2;
      written = w;
    })
    c.quotient_shown.ensures.shown c.quotient_shown.ensures.written

pub returns-in-Ok-clause-limit : goal.returns-in-Ok-clause-limit
returns-in-Ok-clause-limit c = λ h.
    absurd (never_past c.args.number.now c.args.base c.power_of-power.result (size c.in-Ok.quotient) (size_mode c.args.mode c.args.minus) c.in-Ok.quotient
    c.power_of-power.ensures.valid c.power_of-power.ensures.power refl c.in-Ok.ensures.quotient (c.quotient_shown.ensures.limit h))

pub returns-in-Err-clause-limit : goal.returns-in-Err-clause-limit
returns-in-Err-clause-limit c = λ h. record {
  k = c.power_of-power.result;
  power_is = c.power_of-power.ensures.power;
  past = c.in-Err.ensures.limit (other_result Shown Unsigned DecimalError c.in-Err.error Limit h);
}
