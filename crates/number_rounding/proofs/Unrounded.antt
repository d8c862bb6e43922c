-- A decimal that is rounded at a place below all its powers stays as it is, and within the limits.
use Rattle.std.proofs.Common.{◌≡◌, ℕ, ◌+◌, ◌-◌, ◌*◌, ◌^◌, ◌<◌, ◌≤◌, sym, ◌∙◌, ap, arith, mul_assoc, pos}
use Rattle.fixed_decimal.specs.declared.modes.UnsignedRoundingMode.{UnsignedRoundingMode}
use Rattle.fixed_decimal.specs.Unsigned.{Unsigned, IsUnsigned, integer_count}
use Rattle.fixed_decimal.specs.Size.{finest, size, weighed, ten_to}
use Rattle.fixed_decimal.specs.Nearest.{IsMultiple}
use Rattle.fixed_decimal.specs.Modes.{IsTaken}
use Rattle.fixed_decimal.specs.RoundedBy.{SizeRoundsPastLimits}
use Rattle.fixed_decimal.proofs.Weights.{ten_mono, weighed_units}
use Rattle.fixed_decimal.proofs.Magnitudes.{size_lt}
use Rattle.fixed_decimal.proofs.MagnitudePlaces.{ten_multiple}
use Rattle.fixed_decimal.proofs.Taken.{allowed_taken, taken-unique}

module _ (d : Unsigned) (is : IsUnsigned d) where
  -- a decimal is a multiple of ten to each place that is not above that of its last digit
  pub exact_multiple : (u : ℕ) → u + d.scale ≤ finest → IsMultiple (10 ^ u) (size d)
  exact_multiple u h =
      let split = ten_multiple u (finest - d.scale) (omega arith) in (
        weighed 0 d.digits * split.0,
        weighed_units (finest - d.scale) d.digits ∙ ap (λ n. weighed 0 d.digits * n) split.1 ∙ sym (mul_assoc (weighed 0 d.digits) split.0 (10 ^ u)),
      )

  -- so of each unit that lies below the least power
  fine_multiple : (u unit : ℕ) → u + 32768 < finest → unit ≡ 1 * 10 ^ u → IsMultiple unit (size d)
  fine_multiple u unit h e =
      let same : unit ≡ 10 ^ u = omega arith in
      rw same (exact_multiple u (omega (arith, is.low_limit)))

  -- no decimal reaches ten to the power 32768
  pub below_limit : size d < ten_to (pos 32768)
  below_limit = omega (arith, size_lt d is, ten_mono (finest + integer_count d) (finest + 32768) (omega (arith, is.high_limit)))

  pub unrounded : (mode : UnsignedRoundingMode) (u unit : ℕ) → u + 32768 < finest → unit ≡ 1 * 10 ^ u → IsTaken (IsMultiple unit) mode unit (size d)
      (size d)
  unrounded mode u unit h e = allowed_taken (IsMultiple unit) mode unit (size d) (fine_multiple u unit h e)

  pub unrounded_within : (mode : UnsignedRoundingMode) (u unit : ℕ) → u + 32768 < finest → unit ≡ 1 * 10 ^ u → ¬ (SizeRoundsPastLimits mode unit d)
  unrounded_within mode u unit h e (y, taken, large) =
      let same : y ≡ size d = taken-unique (IsMultiple unit) mode unit (size d) y (size d) taken (unrounded mode u unit h e) in
      omega (arith, below_limit)
