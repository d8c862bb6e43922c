use Rattle.std.proofs.Common.{◌≡◌, ◌*◌, ◌^◌, ◌∙◌, ap, sym, subst, ℕ, pos, length}
use Rattle.std.specs.Int.{int_max}
use Rattle.fixed_decimal.specs.Size.{size, magnitude}
use Rattle.fixed_decimal.specs.Modes.{IsLeastFrom}
use Rattle.fixed_decimal.specs.Padding.{IsExactWith}
use Rattle.scaled_units.specs.Reading.{digits_kept}
use Rattle.scaled_units.proofs.Products.{fraction_length}
use Rattle.scaled_units.proofs.Results.{IfOk-three}
use Rattle.scaled_units.proofs.reading.in_unit.Goals as goal

pub returns-in-Ok-clause-in_unit : goal.returns-in-Ok-clause-in_unit
returns-in-Ok-clause-in_unit c =
    let power = c.args.unit.power in
    let count : length c.fraction.result.now ≡ c.args.number.now.scale = ap length c.fraction.ensures.digits
    ∙ fraction_length c.args.number.now c.fraction.ensures.valid.integer_some in
    let kept = c.digits_kept-fraction.ensures.kept ∙ ap (digits_kept power) count in
    IfOk-three c.padded.result _ _ _ _
    (λ y s h l. record {
      size_is = s ∙ c.in-Ok.ensures.size ∙ ap (λ f. size c.args.number.now * f ^ power) c.value.ensures;
      written = record {
        high_is = h ∙ ap (λ n. int_max (pos 0) (magnitude n)) (sym s);
        scale_is = subst (λ (k : ℕ). IsLeastFrom (IsExactWith (size y)) k y.scale) kept
            (subst (λ (n : ℕ). IsLeastFrom (IsExactWith n) c.digits_kept-fraction.result y.scale) (sym s) l);
      };
    })
    c.padded.ensures.size c.padded.ensures.high c.padded.ensures.scale
