use Rattle.std.proofs.Common.{◌*◌, ◌^◌, ◌∙◌, ap, refl, subst, ℤ, arith, FitsSigned, w16}
use Rattle.std.proofs.lemmas.Result.{IfOk-weaker}
use Rattle.std.proofs.lemmas.Int.{ints, to_z-of_z}
use Rattle.fixed_decimal.specs.Size.{size}
use Rattle.fixed_decimal.specs.Scaling.{IsTimesTenTo, MovesPastLimits}
use Rattle.scaled_units.specs.Scales.{places, cofactor}
use Rattle.scaled_units.proofs.Quotients.{times_down, quotient_is, quotient_within, moves_past}
use Rattle.scaled_units.proofs.division.divided.Goals as goal

pub returns-in-Ok-clause-quotient : goal.returns-in-Ok-clause-quotient
returns-in-Ok-clause-quotient c =
    let base = c.args.base in
    let power = c.args.power in
    let y = size c.in-Ok.moved in
    let x = size c.args.number.now in
    let fits : FitsSigned w16 c.power_down.result = omega (arith, ints, c.power_down.type_inv) in
    let times = subst (λ (k : ℤ). IsTimesTenTo k x y) (to_z-of_z w16 c.power_down.result fits) c.in-Ok.ensures.size in
    let t = times_down c.power_down.result (places base * power) x y c.power_down.ensures times in
    IfOk-weaker c.times_power.result _ _ (λ q e. quotient_is base power (size q) y x t (e ∙ ap (λ f. y * f ^ power) c.cofactor.ensures.value))
    c.times_power.ensures.size

pub returns-in-Ok-clause-limit : goal.returns-in-Ok-clause-limit
returns-in-Ok-clause-limit c = λ h.
    let base = c.args.base in
    let power = c.args.power in
    let y = size c.in-Ok.moved in
    let x = size c.args.number.now in
    let fits : FitsSigned w16 c.power_down.result = omega (arith, ints, c.power_down.type_inv) in
    let times = subst (λ (k : ℤ). IsTimesTenTo k x y) (to_z-of_z w16 c.power_down.result fits) c.in-Ok.ensures.size in
    let t = times_down c.power_down.result (places base * power) x y c.power_down.ensures times in
    let past = rw c.cofactor.ensures.value at (c.times_power.ensures.limit h) in
    absurd (quotient_within c.args.number.now base power (y * cofactor base ^ power) c.in-Ok.ensures.valid
    (quotient_is base power (y * cofactor base ^ power) y x t refl) past)

pub returns-in-Err-clause-limit : goal.returns-in-Err-clause-limit
returns-in-Err-clause-limit c = λ h.
    let fits : FitsSigned w16 c.power_down.result = omega (arith, ints, c.power_down.type_inv) in
    let past = subst (λ (k : ℤ). MovesPastLimits c.args.number.now k) (to_z-of_z w16 c.power_down.result fits) (c.in-Err.ensures.limit h) in
    moves_past c.args.number.now c.power_down.result (places c.args.base * c.args.power) c.in-Err.ensures.valid c.power_down.ensures past
