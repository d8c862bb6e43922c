-- The calls of a decimal that displaying it takes, by the clauses of those calls.
use Rattle.std.proofs.Common.{◌≡◌, ℕ, ◌+◌, ◌*◌, ◌^◌, ◌≤◌, ◌⊎◌, inl, inr, arith, sym, ap, subst, ◌∙◌, ℤ, pos, negsuc}
use Rattle.std.proofs.Common.{◌-ℤ◌, ◌≤ℤ◌, ◌<ℤ◌}
use Rattle.std.specs.Int.{int_max}
use Rattle.std.proofs.lemmas.Int.{ints, clamps}
use Rattle.fixed_decimal.specs.Size.{finest, magnitude_place, magnitude, place, size}
use Rattle.fixed_decimal.specs.Unsigned.{IsUnsigned, Unsigned, high, integer_count}
use Rattle.fixed_decimal.specs.Rounding.{RoundsPastLimits}
use Rattle.fixed_decimal.specs.Significand.{IsRoundedSignificand}
use Rattle.fixed_decimal.proofs.Magnitudes.{place-magnitude, size_lt, magnitude_has, magnitude_le-high}
use Rattle.icu_decimal.specs.CompactNumber.{rounding_place}
use Rattle.icu_decimal.specs.RoundedAt.{IsRoundedAt, RoundsPast}
use Rattle.icu_decimal.proofs.PowerPlaces.{finest_larger}
use Rattle.icu_decimal.proofs.CompactCore.{exact_rounded, exact_within}

-- a decimal, the power of its magnitude, and the power `at` whose place is its rounding place
module _ (d : Unsigned) (e : ℕ) (power at : ℤ) (top : power ≡ magnitude (size d)) (rounding_place_is : place at ≡ rounding_place e (place power))
  where
    at_rounding_place : place at ≡ rounding_place e (magnitude_place (size d))
    at_rounding_place = rounding_place_is ∙ ap (rounding_place e) (ap place top ∙ place-magnitude (size d))

    module _ (valid : IsUnsigned d) (under : at <ℤ negsuc 32767) where
      fine : (p : ℤ) → p <ℤ negsuc 32767 → place p + 32768 ≤ finest
      fine (pos n) h = absurd (omega (arith, ints))
      fine (negsuc n) h = omega (arith, ints, finest_larger)

      small : rounding_place e (magnitude_place (size d)) + d.scale ≤ finest
      small = omega (arith, fine at under, at_rounding_place, valid.low_limit)

      -- below all powers of an i16 the decimal is rounded as it stands
      pub unrounded : IsRoundedAt (rounding_place e (magnitude_place (size d))) (size d) (size d)
      unrounded = exact_rounded d (rounding_place e (magnitude_place (size d))) small

      -- and within the limits
      pub unrounded_within : ¬ (RoundsPast (rounding_place e (magnitude_place (size d))) (size d))
      unrounded_within = exact_within d (rounding_place e (magnitude_place (size d))) (finest + integer_count d) small (size_lt d valid)
          (omega (arith, valid.high_limit))

      -- its significand over ten to the exponent 0
      pub unrounded_significand : (s : Unsigned) → size s ≡ size d → e ≡ 0 →
          IsRoundedAt (rounding_place e (magnitude_place (size d))) (size d) (size s * 10 ^ e)
      unrounded_significand s same none =
          let one : size s * 10 ^ e ≡ size d = rw none (omega (arith, same)) in
          rw one unrounded

    -- no exponent that is taken is above the decimal
    pub exponent_below_high : IsUnsigned d → (e ≡ 0) ⊎ (pos e ≤ℤ power) → pos e ≤ℤ high d
    exponent_below_high valid (inl none) = omega (arith, ints, valid.integer_some)
    exponent_below_high valid (inr reached) = omega (arith, ints, magnitude_le-high d (magnitude (size d)) valid (magnitude_has (size d)))

    module _ (p : ℤ) (same : p ≡ at) where
      place_is_rounding_place : place p ≡ rounding_place e (magnitude_place (size d))
      place_is_rounding_place = ap place same ∙ at_rounding_place

      -- where rounding at the rounding place passes the limits, the call that rounds there rejects
      pub past_to : RoundsPast (rounding_place e (magnitude_place (size d))) (size d) → RoundsPastLimits d p
      past_to (y, near, large) = (y, subst (λ u. IsRoundedAt u (size d) y) (sym place_is_rounding_place) near, large)

      -- and only there
      pub past_from : RoundsPastLimits d p → RoundsPast (rounding_place e (magnitude_place (size d))) (size d)
      past_from (y, near, large) = (y, subst (λ u. IsRoundedAt u (size d) y) place_is_rounding_place near, large)

      module _ (s : Unsigned) (r : IsRoundedSignificand d p e s) where
        -- what that call answers is, times ten to the exponent, the size rounded at the rounding place
        pub significand_nearest : IsRoundedAt (rounding_place e (magnitude_place (size d))) (size d) (size s * 10 ^ e)
        significand_nearest = subst (λ u. IsRoundedAt u (size d) (size s * 10 ^ e)) place_is_rounding_place r.nearest

        -- its greatest written power is that of the decimal, or of a carry above it, less the exponent
        pub significand_high : IsUnsigned d → at <ℤ power → (e ≡ 0) ⊎ (pos e ≤ℤ power) →
            high s ≡ int_max (pos 0) (int_max (high d) (magnitude (size s * 10 ^ e)) -ℤ pos e)
        significand_high valid below taken = omega (
          arith,
          ints,
          clamps,
          r.high_is,
          exponent_below_high valid taken,
          magnitude_le-high d (magnitude (size d)) valid (magnitude_has (size d)),
        )
