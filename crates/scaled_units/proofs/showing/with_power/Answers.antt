use Rattle.std.proofs.Common.{◌∙◌, ℕ, ap, sym, subst, pos}
use Rattle.std.specs.Int.{int_max}
use Rattle.fixed_decimal.specs.Size.{size, magnitude}
use Rattle.fixed_decimal.specs.Modes.{IsLeastFrom}
use Rattle.fixed_decimal.specs.Padding.{IsExactWith}
use Rattle.scaled_units.specs.Shown.{digits_shown, fraction_shown}
use Rattle.scaled_units.proofs.Results.{IfOk-three}
use Rattle.scaled_units.proofs.showing.with_power.Goals as goal

pub returns-clause-written : goal.returns-clause-written
returns-clause-written c =
    let e = c.digits_shown-fraction.ensures.digits ∙ ap (digits_shown c.args.power) c.is_below.ensures in
    IfOk-three c.padded.result _ _ _ _
    (λ y s h l. record {
      high_is = h ∙ ap (λ n. int_max (pos 0) (magnitude n)) (sym s);
      scale_is = subst (λ (n : ℕ). IsLeastFrom (IsExactWith n) (fraction_shown c.args.power n) y.scale) (sym s)
          (subst (λ (k : ℕ). IsLeastFrom (IsExactWith (size c.args.number.now)) k y.scale) e l);
    })
    c.padded.ensures.size c.padded.ensures.high c.padded.ensures.scale
