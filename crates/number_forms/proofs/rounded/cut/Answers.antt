use Rattle.std.proofs.Common.{◌≡◌, ◌-ℤ◌, pos, arith, inr, refl}
use Rattle.std.proofs.lemmas.Int.{ints}
use mir.Syntax.{w16}
use mir.Val.{of_z, to_z}
use Rattle.number_forms.proofs.NumbersShown.{cut-itself, cut-past, cut-rounded}
use Rattle.number_forms.proofs.rounded.cut.Goals as goal

pub returns-then-scale_of-digits-clause-ok : goal.returns-then-scale_of-digits-clause-ok
returns-then-scale_of-digits-clause-ok c =
    cut-itself c.args.digits c.args.decimal.now.absolute c.scale_of.ensures.valid (omega (arith, c.scale_of.ensures.scale))

pub returns-in-Ok-clause-ok : goal.returns-in-Ok-clause-ok
returns-in-Ok-clause-ok c =
    let is : to_z w16 (of_z w16 c.last_power.result) ≡ pos 0 -ℤ pos c.args.digits = omega (arith, ints, c.last_power.ensures, c.requires) in
    cut-rounded c.args.decimal.now.absolute _ c.args.digits is c.requires c.round.new.self.absolute c.in-Ok.ensures.rounded c.in-Ok.ensures.valid

pub returns-in-Err-Limit-clause-refused : goal.returns-in-Err-Limit-clause-refused
returns-in-Err-Limit-clause-refused c =
    let is : to_z w16 (of_z w16 c.last_power.result) ≡ pos 0 -ℤ pos c.args.digits = omega (arith, ints, c.last_power.ensures, c.requires) in
    inr (
      refl,
      cut-past c.args.decimal.now.absolute _ c.args.digits is c.requires (c.in-Err-Limit.ensures.limit.0 (rw c.in-Err-Limit.field-0-is refl)),
    )
