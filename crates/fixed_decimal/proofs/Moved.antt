-- Digits that are moved by a power of ten.
use Rattle.std.proofs.Common.{◌≡◌, ℕ, ◌+◌, ◌-◌, ◌*◌, ◌^◌, ◌<◌, ◌≤◌, ◌⊎◌, inl, inr, List, zero-add, mul_assoc, sym}
use Rattle.std.proofs.Common.{◌∙◌, ap, ◌++◌, length, replicate, length-append, refl, arith, ℤ, pos, ◌+ℤ◌, ◌-ℤ◌, ◌≤ℤ◌}
use Rattle.std.proofs.Common.{◌<ℤ◌}
use Rattle.std.specs.Int.{int_max}
use Rattle.std.proofs.lemmas.Int.{ints, clamps}
use Rattle.std.proofs.lemmas.List.{length-replicate}
use Rattle.std.proofs.lemmas.List.Elements.{All-append, All-replicate}
use Rattle.std.proofs.lemmas.Nat.{pow-add}
use Rattle.fixed_decimal.specs.Unsigned.{IsUnsigned}
use Rattle.fixed_decimal.specs.Size.{finest, weighed}
use Rattle.fixed_decimal.specs.Rounding.{scale_at, zeros_at}
use Rattle.fixed_decimal.specs.Scaling.{IsMoved, IsTimesTenTo, MovesPastLimits}
use Rattle.fixed_decimal.proofs.Weights.{weighed-append, weighed_units, weighed-replicate_zero, same_power}
use Rattle.fixed_decimal.proofs.Rounds.{finest_large, weighed-zeros}
use Rattle.fixed_decimal.proofs.Rounded.{power_is}
use Rattle.fixed_decimal.proofs.Places.{digit_at-moved}

-- with zeros before and behind the digits, and each digit k powers higher, the size is ten to k times the size before
pub moved_size : (ds : List ℕ) (s : ℕ) (k : ℤ) (f b s' : ℕ) → s ≤ finest → s' ≤ finest → pos s' ≡ (pos s -ℤ k) +ℤ pos b →
    weighed (finest - s') (replicate f 0 ++ (ds ++ replicate b 0)) * 10 ^ scale_at k ≡ weighed (finest - s) ds * 10 ^ zeros_at k
moved_size ds s k f b s' fine fine' scale =
    let e = finest - s' in
    let rest = ds ++ replicate b 0 in
    let front : weighed e (replicate f 0 ++ rest) ≡ weighed e rest =
    weighed-append e (replicate f 0) rest ∙ rw (weighed-replicate_zero (e + length rest) f) (zero-add _) in
    let back : weighed e rest ≡ weighed 0 ds * 10 ^ (e + b) = rw (zero-add b) at (weighed-zeros e 0 b ds) in
    let up = pow-add 10 (e + b) (scale_at k) in
    let down = pow-add 10 (finest - s) (zeros_at k) in
    let same : 10 ^ (e + b + scale_at k) ≡ 10 ^ (finest - s + zeros_at k) =
    same_power (e + b + scale_at k) (finest - s + zeros_at k) (omega (arith, ints, power_is k)) in
    let powers : 10 ^ (e + b) * 10 ^ scale_at k ≡ 10 ^ (finest - s) * 10 ^ zeros_at k = sym up ∙ same ∙ down in
    rw (front, back, weighed_units (finest - s) ds) (regroup (weighed 0 ds) (10 ^ (e + b)) (10 ^ scale_at k) (10 ^ (finest - s)) (10 ^ zeros_at k) powers)
  where
    regroup : (w a b c d : ℕ) → a * b ≡ c * d → w * a * b ≡ w * c * d
    regroup w a b c d e = mul_assoc w a b ∙ ap (λ n. w * n) e ∙ sym (mul_assoc w c d)

module _ (ds : List ℕ) (s : ℕ) (k : ℤ) (is : IsUnsigned (record { digits = ds; scale = s })) where
  module _ (f b s' : ℕ) (front : pos f ≡ int_max (pos 0) (pos 1 -ℤ (pos (length ds - s) +ℤ k))) (back : pos b ≡ int_max (pos 0) (k -ℤ pos s))
      (scale : pos s' ≡ int_max (pos 0) (pos s -ℤ k)) (high : (pos (length ds - s) +ℤ k) ≤ℤ pos 32768) (low : (pos s -ℤ k) ≤ℤ pos 32768) where
    len : length (replicate f 0 ++ (ds ++ replicate b 0)) ≡ f + (length ds + b)
    len = omega (
      arith,
      length-append (replicate f 0) (ds ++ replicate b 0),
      length-append ds (replicate b 0),
      length-replicate {A = ℕ} f 0,
      length-replicate {A = ℕ} b 0,
    )

    pub moved_valid : IsUnsigned (record { digits = replicate f 0 ++ (ds ++ replicate b 0); scale = s' })
    moved_valid = record {
      below_ten = All-append (λ d. d < 10) (replicate f 0) (ds ++ replicate b 0) (All-replicate (λ d. d < 10) f 0 (omega arith))
          (All-append (λ d. d < 10) ds (replicate b 0) is.below_ten (All-replicate (λ d. d < 10) b 0 (omega arith)));
      integer_some = omega (arith, ints, clamps, len, is.integer_some);
      high_limit = omega (arith, ints, clamps, len, is.integer_some);
      low_limit = omega (arith, ints, clamps);
    }

    pub moved : IsMoved (record { digits = ds; scale = s }) k (record { digits = replicate f 0 ++ (ds ++ replicate b 0); scale = s' })
    moved = record {
      digits_are = digit_at-moved (record { digits = ds; scale = s }) (record { digits = replicate f 0 ++ (ds ++ replicate b 0); scale = s' }) f b k
          is.integer_some moved_valid.integer_some refl (omega (arith, ints, clamps, len, is.integer_some));
      high_is = omega (arith, ints, clamps, len, is.integer_some);
      low_is = omega (arith, ints, clamps);
    }

    pub moved_times : IsTimesTenTo k (weighed (finest - s) ds) (weighed (finest - s') (replicate f 0 ++ (ds ++ replicate b 0)))
    moved_times = moved_size ds s k f b s' (omega (arith, finest_large, is.low_limit)) (omega (arith, ints, clamps, finest_large)) (omega (arith, ints, clamps))

  pub moves_within : (pos (length ds - s) +ℤ k) ≤ℤ pos 32768 → (pos s -ℤ k) ≤ℤ pos 32768 →
      ¬ (MovesPastLimits (record { digits = ds; scale = s }) k)
  moves_within high low (inl h) = omega (arith, ints)
  moves_within high low (inr h) = omega (arith, ints)

  pub moves_past : (pos 32768 <ℤ (pos (length ds - s) +ℤ k)) ⊎ (pos 32768 <ℤ (pos s -ℤ k)) → MovesPastLimits (record { digits = ds; scale = s }) k
  moves_past (inl h) = inl (omega (arith, ints))
  moves_past (inr h) = inr (omega (arith, ints))
