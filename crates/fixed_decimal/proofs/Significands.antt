-- The digits of a rounded decimal without the zeros at their end, and the point moved, are its significand.
use Rattle.std.proofs.Common.{◌≡◌, ◌≢◌, ℕ, ◌+◌, ◌-◌, ◌*◌, ◌^◌, ◌<◌, ◌≤◌, ◌⊎◌, inl, inr, List, ◌++◌, length}
use Rattle.std.proofs.Common.{get_or, replicate, length-append, refl, sym, ◌∙◌, ap, arith, ℤ, pos, ◌-ℤ◌}
use Rattle.std.proofs.lemmas.Int.{ints}
use Rattle.std.proofs.lemmas.List.{length-replicate, take_at}
use Rattle.std.proofs.lemmas.List.Elements.{All-take}
use Rattle.fixed_decimal.specs.Unsigned.{Unsigned, IsUnsigned, AreDigits, digit_at, high, low}
use Rattle.fixed_decimal.specs.Size.{weighed, finest}
use Rattle.fixed_decimal.specs.Rounding.{IsRounded, scale_at}
use Rattle.fixed_decimal.specs.Trimming.{IsTrimmed}
use Rattle.fixed_decimal.specs.Significand.{IsRoundedSignificand}
use Rattle.fixed_decimal.proofs.Weights.{weighed_times}
use Rattle.fixed_decimal.proofs.Rounds.{finest_large}
use Rattle.fixed_decimal.proofs.Magnitudes.{weighed_trimmed}
use Rattle.fixed_decimal.proofs.Places.{digit_at_place}

-- a decimal is trimmed where it has no digit below power 0 or its last digit isn't 0
pub trimmed_last : (s : Unsigned) → IsUnsigned s → (s.scale ≡ 0) ⊎ (get_or s.digits (length s.digits - 1) 0 ≢ 0) → IsTrimmed s
trimmed_last s is (inl none) = inl (omega (arith, ints))
trimmed_last s is (inr last) =
    let at : digit_at s (low s) ≡ get_or s.digits (length s.digits - 1) 0 =
    digit_at_place s (low s) (length s.digits - 1) is.integer_some (omega (arith, ints, is.integer_some)) in
    inr (rw at last)

-- The rounded digits ys, of which the last `moved` stand below power 0 after the division by ten to e, are hs and zeros;
-- of hs the last s digits stand below power 0.
module _ (d : Unsigned) (p : ℤ) (e : ℕ) (ys hs : List ℕ) (s moved : ℕ) (is : IsUnsigned (record { digits = ys; scale = scale_at p }))
    (moved_is : moved ≡ scale_at p + e) (le : s ≤ moved) (zeros : ys ≡ hs ++ replicate (moved - s) 0) (some : moved < length ys) (small : moved ≤ 32768)
  where
    len : length ys ≡ length hs + (moved - s)
    len = ap length zeros ∙ omega (arith, length-append hs (replicate (moved - s) 0), length-replicate {A = ℕ} (moved - s) 0)

    digits : AreDigits hs
    digits = rw (sym (take_at hs (replicate (moved - s) 0) (length hs) refl))
        (All-take (λ x. x < 10) (length hs) (hs ++ replicate (moved - s) 0) (rw zeros at is.below_ten))

    pub significand_valid : IsUnsigned (record { digits = hs; scale = s })
    significand_valid = record {
      below_ten = digits;
      integer_some = omega (arith, len);
      high_limit = omega (arith, len, is.high_limit);
      low_limit = omega arith;
    }

    -- the size of hs times ten to the exponent is that of the rounded digits
    significand_size : weighed (finest - s) hs * 10 ^ e ≡ weighed (finest - scale_at p) ys
    significand_size =
        let trimmed : weighed (finest - s) hs ≡ weighed (finest - moved) ys =
        weighed_trimmed ys hs moved s (moved - s) zeros (omega arith) (omega (arith, finest_large)) in
        let place : finest - moved + e ≡ finest - scale_at p = omega (arith, finest_large) in
        ap (λ n. n * 10 ^ e) trimmed ∙ sym (weighed_times (finest - moved) e ys) ∙ ap (λ n. weighed n ys) place

    significand_high : high (record { digits = hs; scale = s }) ≡ high (record { digits = ys; scale = scale_at p }) -ℤ pos e
    significand_high = omega (arith, ints, len)

    pub significand : IsRounded d p (record { digits = ys; scale = scale_at p }) → (s ≡ 0) ⊎ (get_or hs (length hs - 1) 0 ≢ 0) →
        IsRoundedSignificand d p e (record { digits = hs; scale = s })
    significand r last = record {
      nearest = rw significand_size r.nearest;
      high_is = rw significand_size (significand_high ∙ ap (λ h. h -ℤ pos e) r.high_is);
      trimmed = trimmed_last (record { digits = hs; scale = s }) significand_valid last;
    }
