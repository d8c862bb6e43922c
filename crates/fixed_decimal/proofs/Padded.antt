-- Digits without the zeros before them, and with zeros before and behind them: sizes, and how many digits they need.
use Rattle.std.proofs.Common.{◌≡◌, ◌≢◌, ℕ, ◌+◌, ◌-◌, ◌*◌, ◌^◌, ◌<◌, ◌≤◌, inl, inr, List, [], ◌∷◌, ◌++◌}
use Rattle.std.proofs.Common.{length, take, drop, get_or, min}
use Rattle.std.proofs.Common.{replicate, length-append, zero-add, mul_assoc, refl, sym, ◌∙◌, ap, arith, ℤ, pos, ◌-ℤ◌}
use Rattle.std.specs.Int.{int_max}
use Rattle.std.proofs.lemmas.Int.{ints, clamps}
use Rattle.std.proofs.lemmas.Bool.{cases_lt}
use Rattle.std.proofs.lemmas.Nat.{pow-add}
use Rattle.std.proofs.lemmas.List.{length-replicate, length-drop, drop_at, take_more, take_all, replicate-append-replicate, append_assoc}
use Rattle.std.proofs.lemmas.List.Elements.{All-append, All-replicate, All-drop, All-get_or}
use Rattle.fixed_decimal.specs.Unsigned.{Unsigned, IsUnsigned, digit_at, high, low}
use Rattle.fixed_decimal.specs.Size.{weighed, finest, magnitude}
use Rattle.fixed_decimal.specs.Modes.{IsLeastFrom}
use Rattle.fixed_decimal.specs.Trimming.{IsTrimmed}
use Rattle.fixed_decimal.specs.Padding.{IsExactWith}
use Rattle.fixed_decimal.proofs.Weights.{weighed-append, weighed_units, weighed-replicate_zero, ten_more, ten_pos}
use Rattle.fixed_decimal.proofs.Rounds.{finest_large}
use Rattle.fixed_decimal.proofs.Magnitudes.{magnitude_first, magnitude_none, magnitude_only}
use Rattle.fixed_decimal.proofs.MagnitudePlaces.{ten_multiple}
use Rattle.fixed_decimal.proofs.Moved.{moved_size}
use Rattle.fixed_decimal.proofs.Places.{digit_at_place}

-- The digits ds, of which the last s stand below power 0, begin with f zeros, of which z are left out.
module _ (ds : List ℕ) (s f z : ℕ) (is : IsUnsigned (record { digits = ds; scale = s })) (within : f ≤ length ds)
    (zeros : ds ≡ replicate f 0 ++ drop f ds) (stops : f < length ds → get_or ds f 0 ≢ 0) (count : z ≡ min f (length ds - s - 1))
  where
    front : ds ≡ replicate z 0 ++ (replicate (f - z) 0 ++ drop f ds)
    front =
        let split : f ≡ z + (f - z) = omega arith in
        zeros ∙ ap (λ l. l ++ drop f ds) (ap (λ n. replicate n 0) split ∙ sym (replicate-append-replicate z (f - z) 0))
        ∙ append_assoc (replicate z 0) (replicate (f - z) 0) (drop f ds)

    rest : drop z ds ≡ replicate (f - z) 0 ++ drop f ds
    rest = ap (drop z) front ∙ drop_at (replicate z 0) (replicate (f - z) 0 ++ drop f ds) z (length-replicate {A = ℕ} z 0)

    pub start_size : weighed (finest - s) (drop z ds) ≡ weighed (finest - s) ds
    start_size =
        let e = finest - s in
        let left = replicate (f - z) 0 ++ drop f ds in
        let none : weighed e (replicate z 0 ++ left) ≡ weighed e left =
        weighed-append e (replicate z 0) left ∙ rw (weighed-replicate_zero (e + length left) z) (zero-add _) in
        ap (weighed e) rest ∙ sym none ∙ sym (ap (weighed e) front)

    pub start_valid : IsUnsigned (record { digits = drop z ds; scale = s })
    start_valid = record {
      below_ten = All-drop (λ d. d < 10) z ds is.below_ten;
      integer_some = omega (arith, length-drop z ds, is.integer_some);
      high_limit = omega (arith, length-drop z ds, is.high_limit);
      low_limit = is.low_limit;
    }

    pub start_high : high (record { digits = drop z ds; scale = s }) ≡ int_max (pos 0) (magnitude (weighed (finest - s) ds))
    start_high = elim (cases_lt f (length ds)) [
      | inl some ↦
          let m : ℤ = (pos (length ds - s) -ℤ pos 1) -ℤ pos f in
          let at : m ≡ magnitude (weighed (finest - s) ds) = magnitude_only (weighed (finest - s) ds) m
          (magnitude_first ds s f m is.below_ten (omega (arith, finest_large, is.low_limit)) is.integer_some zeros some (stops some) refl) in
          omega (arith, ints, clamps, length-drop z ds, is.integer_some)
      | inr none ↦
          let at : pos 0 ≡ magnitude (weighed (finest - s) ds) =
          magnitude_only (weighed (finest - s) ds) (pos 0) (magnitude_none ds s f zeros (omega arith)) in
          omega (arith, ints, clamps, length-drop z ds, is.integer_some)
    ]

-- Digits ds of which the last s stand below power 0, wherever these may be.
module _ (ds : List ℕ) (s : ℕ) (some : 0 < length ds) (fine : s ≤ finest) where
  -- the size by the digits before the last and the last one
  by_last : weighed (finest - s) ds ≡ (10 * weighed 0 (take (length ds - 1) ds) + get_or ds (length ds - 1) 0) * 10 ^ (finest - s)
  by_last =
      let e = finest - s in
      let n = length ds - 1 in
      let xs = take n ds in
      let d = get_or ds n 0 in
      let last : n < length ds = omega arith in
      let whole : take (n + 1) ds ≡ ds = take_all (n + 1) ds (omega arith) in
      let split : ds ≡ xs ++ d ∷ [] = sym whole ∙ take_more ds n 0 last in
      let up : weighed (e + 1) xs ≡ weighed 0 xs * (10 * 10 ^ e) = weighed_units (e + 1) xs ∙ ap (λ p. weighed 0 xs * p) (ten_more e) in
      let one : weighed e (d ∷ []) ≡ d * 10 ^ e =
      let same : e + length {A = ℕ} [] ≡ e = omega arith in ap (λ p. d * 10 ^ p + 0) same ∙ omega arith in
      let joined : weighed e (xs ++ d ∷ []) ≡ weighed (e + 1) xs + weighed e (d ∷ []) = weighed-append e xs (d ∷ []) in
      ap (weighed e) split ∙ omega (arith, joined, up, one)

  -- fewer digits below power 0 do not write it, where the last one isn't 0
  pub not_fewer : (n : ℕ) → get_or ds (length ds - 1) 0 ≢ 0 → get_or ds (length ds - 1) 0 < 10 → n < s →
      ¬ (IsExactWith (weighed (finest - s) ds) n)
  not_fewer n other below h (k, e) =
      let u = 10 ^ (finest - s) in
      let q = weighed 0 (take (length ds - 1) ds) in
      let d = get_or ds (length ds - 1) 0 in
      let t = finest - n - (finest - s) - 1 in
      let power : 10 ^ (finest - n) ≡ 10 ^ t * (10 * u) =
      ap (λ p. 10 ^ p) (let same : finest - n ≡ t + (finest - s + 1) = omega arith in same)
      ∙ pow-add 10 t (finest - s + 1) ∙ ap (λ p. 10 ^ t * p) (ten_more (finest - s)) in
      let both : (10 * q + d) * u ≡ (10 * (k * 10 ^ t)) * u = sym by_last ∙ e ∙ ap (λ p. k * p) power ∙ omega arith in
      let positive : 0 < u = ten_pos (finest - s) in
      let same : 10 * q + d ≡ 10 * (k * 10 ^ t) = cancel (10 * q + d) (10 * (k * 10 ^ t)) u positive both in
      omega arith
    where
      cancel : (a b u : ℕ) → 0 < u → a * u ≡ b * u → a ≡ b
      cancel a b u positive e = grind arith

-- The trimmed digits ds, of which the last s stand below power 0, get zeros before and behind them.
module _ (ds : List ℕ) (s integer fraction f b : ℕ) (is : IsUnsigned (record { digits = ds; scale = s })) (small : integer ≤ 32768)
    (small' : fraction ≤ 32768) (before : f ≡ integer - (length ds - s)) (behind : b ≡ fraction - s)
  where
    len : length (replicate f 0 ++ (ds ++ replicate b 0)) ≡ f + (length ds + b)
    len = omega (
      arith,
      length-append (replicate f 0) (ds ++ replicate b 0),
      length-append ds (replicate b 0),
      length-replicate {A = ℕ} f 0,
      length-replicate {A = ℕ} b 0,
    )

    pub padded_size : weighed (finest - (s + b)) (replicate f 0 ++ (ds ++ replicate b 0)) ≡ weighed (finest - s) ds
    padded_size =
        let fine : s + b ≤ finest = omega (arith, finest_large, is.low_limit) in
        let moved = moved_size ds s (pos 0) f b (s + b) (omega (arith, finest_large, is.low_limit)) fine (omega (arith, ints)) in
        omega (arith, moved)

    pub padded_valid : IsUnsigned (record { digits = replicate f 0 ++ (ds ++ replicate b 0); scale = s + b })
    padded_valid = record {
      below_ten = All-append (λ d. d < 10) (replicate f 0) (ds ++ replicate b 0) (All-replicate (λ d. d < 10) f 0 (omega arith))
          (All-append (λ d. d < 10) ds (replicate b 0) is.below_ten (All-replicate (λ d. d < 10) b 0 (omega arith)));
      integer_some = omega (arith, len, is.integer_some);
      high_limit = omega (arith, len, is.high_limit, is.integer_some);
      low_limit = omega (arith, is.low_limit);
    }

    pub padded_scale : IsTrimmed (record { digits = ds; scale = s }) → IsLeastFrom (IsExactWith (weighed (finest - s) ds)) fraction (s + b)
    padded_scale trimmed = record {
      allowed =
          let split = ten_multiple (finest - (s + b)) (finest - s) (omega arith) in (
            weighed 0 ds * split.0,
            weighed_units (finest - s) ds ∙ ap (λ n. weighed 0 ds * n) split.1 ∙ sym (mul_assoc (weighed 0 ds) split.0 (10 ^ (finest - (s + b)))),
          );
      from = omega arith;
      least = λ n written h. elim (cases_lt n s) [
        | inr above ↦ omega arith
        | inl below ↦ absurd (fewer n written below trimmed)
      ];
    }
      where
        fewer : (n : ℕ) → IsExactWith (weighed (finest - s) ds) n → n < s → IsTrimmed (record { digits = ds; scale = s }) → ⊥
        fewer n written h (inl none) = omega (arith, ints)
        fewer n written h (inr last) =
            let d : Unsigned = record { digits = ds; scale = s } in
            let at : digit_at d (low d) ≡ get_or ds (length ds - 1) 0 =
            digit_at_place d (low d) (length ds - 1) is.integer_some (omega (arith, ints, is.integer_some)) in
            let other : get_or ds (length ds - 1) 0 ≢ 0 = rw at at last in
            not_fewer ds s (omega (arith, is.integer_some)) (omega (arith, finest_large, is.low_limit)) n other (All-get_or (λ d. d < 10)
            ds (length ds - 1) 0 (omega (arith, is.integer_some)) is.below_ten) h written
