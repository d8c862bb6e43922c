use Rattle.std.proofs.Common.{◌≡◌, Result, Ok, Err, arith, inr, refl, sym, ap, ◌∙◌, ℤ, pos}
use Rattle.std.specs.Prelude.{OnOk, ◌<ℤ◌}
use Rattle.std.proofs.lemmas.Int.{ints}
use mir.Syntax.{w16}
use mir.Val.{of_z, to_z}
use Rattle.fixed_decimal.specs.Unsigned.{Unsigned}
use Rattle.decimal_lines.specs.declared.single_text.TextError.{TextError}
use Rattle.number_forms.specs.Scaled.{IsBare, moved_number}
use Rattle.number_forms.proofs.NumbersMoved.{moved-is, moved-past}
use Rattle.number_forms.proofs.scaled.move_digits.Goals as goal

pub returns-in-Ok-clause-ok : goal.returns-in-Ok-clause-ok
returns-in-Ok-clause-ok c = go c.make_bare-in-Ok.result c.make_bare-in-Ok.ensures.bare
  where
    d : Unsigned
    d = c.args.decimal.now.absolute

    b : Unsigned
    b = c.make_bare.new.decimal.absolute

    m : Unsigned
    m = c.multiply_pow10.new.self.absolute

    u : Unsigned
    u = c.make_bare-in-Ok.new.decimal.absolute

    k : ℤ
    k = to_z w16 (of_z w16 c.args.power)

    is-k : k ≡ c.args.power
    is-k = omega (arith, ints, c.ranges.power.sfits)

    go : (r : Result (Unit {0}) TextError) → OnOk r (IsBare m u) → OnOk r (moved_number c.args.power d ≡ Ok u)
    go (Ok t) is =
        ap (λ (p : ℤ). moved_number p d) (sym is-k)
        ∙ moved-is k d b c.in_ok-make_bare.ensures.bare m u c.in-Ok.ensures.moved c.in-Ok.ensures.size is
    go (Err error) is = tt

pub returns-in-Err-Limit-clause-refused : goal.returns-in-Err-Limit-clause-refused
returns-in-Err-Limit-clause-refused c =
    inr (ap (λ (p : ℤ). moved_number p c.args.decimal.now.absolute) (sym is-k)
    ∙ moved-past k c.args.decimal.now.absolute c.make_bare.new.decimal.absolute c.in_ok-make_bare.ensures.bare small
    (c.in-Err-Limit.ensures.limit.0 (rw c.in-Err-Limit.field-0-is refl)))
  where
    k : ℤ
    k = to_z w16 (of_z w16 c.args.power)

    is-k : k ≡ c.args.power
    is-k = omega (arith, ints, c.ranges.power.sfits)

    small : k <ℤ pos 32768
    small = omega (arith, ints, c.ranges.power.sfits)
