use Rattle.std.proofs.Common.{◌∙◌, ℕ, subst, ap, arith, FitsSigned, w16}
use Rattle.std.proofs.lemmas.Int.{ints, to_z-of_z}
use Rattle.fixed_decimal.specs.Size.{size, ten_to}
use Rattle.fixed_decimal.specs.Modes.{IsTaken, size_mode}
use Rattle.fixed_decimal.specs.Nearest.{IsMultiple}
use Rattle.scaled_units.proofs.showing.rounded_to.Goals as goal

pub returns-in-Ok-clause-taken : goal.returns-in-Ok-clause-taken
returns-in-Ok-clause-taken c =
    let fits : FitsSigned w16 c.last_power.result = omega (arith, ints, c.last_power.type_inv) in
    subst
    (λ (u : ℕ). IsTaken (IsMultiple u) (size_mode c.args.mode c.args.minus) u (size c.args.number) (size c.in-Ok.rounded))
    (ap ten_to (to_z-of_z w16 c.last_power.result fits) ∙ c.last_power.ensures) c.in-Ok.ensures.rounded.taken
