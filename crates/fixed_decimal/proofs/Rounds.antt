-- The digits that rounding keeps, and what they weigh.
use Rattle.std.proofs.Common.{◌≡◌, ℕ, suc, ◌+◌, ◌-◌, ◌*◌, ◌^◌, ◌<◌, ◌≤◌, List, [], ◌∷◌, ◌++◌, length, take}
use Rattle.std.proofs.Common.{drop, get_or}
use Rattle.std.proofs.Common.{replicate, refl, sym, ◌∙◌, ap, arith, zero-add, add-zero}
use Rattle.std.proofs.Math.Nat.{mul-le-mul_left}
use Rattle.std.proofs.lemmas.Nat.{pow-add}
use Rattle.std.proofs.lemmas.List.{length-replicate, length-drop, take-append-drop, take_more}
use Rattle.fixed_decimal.specs.Unsigned.{AreDigits}
use Rattle.fixed_decimal.specs.Size.{weighed, finest}
use Rattle.fixed_decimal.specs.declared.modes.UnsignedRoundingMode.{UnsignedRoundingMode}
use Rattle.fixed_decimal.specs.Nearest.{IsMultiple}
use Rattle.fixed_decimal.specs.Modes.{IsTaken}
use Rattle.fixed_decimal.specs.RoundedBy.{RoundsUpBy, RoundsDownBy}
use Rattle.fixed_decimal.proofs.Weights.{weighed-append, weighed_times, weighed_units, weighed-replicate_zero, weighed-replicate_nine, weighed_lt, ten_pos}
use Rattle.fixed_decimal.proofs.Weights.{ten_more, ten_mono, same_power}
use Rattle.fixed_decimal.proofs.TakenMultiples.{up_taken, down_taken, up_times, down_times, no_rest}

-- the power of the unit lies below every written power
pub finest_large : 32768 ≤ finest
unfolding finest
finest_large = omega arith

-- the weight of digits with zeros behind them
pub weighed-zeros : (e k n : ℕ) (ds : List ℕ) → weighed e (ds ++ replicate (k + n) 0) ≡ weighed k ds * 10 ^ (e + n)
weighed-zeros e k n ds =
    let split = weighed-append e ds (replicate (k + n) 0) in
    let same : e + length {A = ℕ} (replicate (k + n) 0) ≡ k + (e + n) = rw (length-replicate {A = ℕ} (k + n) 0) (omega arith) in
    rw (split, same, weighed-replicate_zero e (k + n), weighed_times k (e + n) ds) (add-zero _)

-- where a digit has nothing but nines behind it, raising it and dropping them adds one
pub raised : (ds : List ℕ) (kept left : ℕ) → 0 < left → left ≤ kept → kept ≤ length ds →
    take kept ds ≡ take left ds ++ replicate (kept - left) 9 →
    weighed (kept - left) (take (left - 1) ds ++ (get_or ds (left - 1) 0 + 1) ∷ []) ≡ weighed 0 (take kept ds) + 1
raised ds kept left some le within nines =
    let k = kept - left in
    let x = get_or ds (left - 1) 0 in
    let front = take (left - 1) ds in
    let last : take left ds ≡ front ++ x ∷ [] =
    ap (λ n. take n ds) (omega arith) ∙ take_more ds (left - 1) 0 (omega arith) in
    let split = weighed-append 0 (take left ds) (replicate k 9) in
    let same : 0 + length {A = ℕ} (replicate k 9) ≡ k = rw (length-replicate {A = ℕ} k 9) (zero-add k) in
    let nine = weighed-replicate_nine 0 k in
    let none : 0 + k ≡ k = zero-add k in
    let one = weighed-append k front (x ∷ []) in
    let more = weighed-append k front ((x + 1) ∷ []) in
    rw (nines, split, same, last, one, more) (omega (arith, rw none at nine, ap (λ n. 10 ^ n) (add-zero k)))

-- one more than nothing but nines is a 1 at the next power
pub carried : (ds : List ℕ) (kept : ℕ) → take kept ds ≡ replicate kept 9 → weighed kept (1 ∷ []) ≡ weighed 0 (take kept ds) + 1
carried ds kept nines =
    let none : 0 + kept ≡ kept = zero-add kept in
    rw nines (omega (arith, rw none at (weighed-replicate_nine 0 kept), ap (λ n. 10 ^ n) (add-zero kept)))

-- The digits ds, of which s stand below power 0 and c do not, are rounded at the place e; s' and n determine the power,
-- whose sign decides which of them is 0.
module _ (ds : List ℕ) (s c kept n s' e : ℕ) (len : s + c ≡ length ds) (fine : s ≤ finest) (fine' : s' ≤ finest) (at_place : e + s' ≡ finest + n)
  where
    -- a size is what the kept digits write, at the place, and what the dropped ones do
    pub size_split : kept + n ≡ c + s' → kept ≤ length ds →
        weighed (finest - s) ds ≡ weighed 0 (take kept ds) * 10 ^ e + weighed 0 (drop kept ds) * 10 ^ (finest - s)
    size_split keep within =
        let f = finest - s in
        let split : weighed f (take kept ds ++ drop kept ds) ≡ weighed (f + length (drop kept ds)) (take kept ds) + weighed f (drop kept ds) =
        weighed-append f (take kept ds) (drop kept ds) in
        let same : f + length (drop kept ds) ≡ e = omega (arith, length-drop kept ds) in
        ap (weighed f) (sym (take-append-drop kept ds)) ∙ split ∙ rw (same, weighed_units e (take kept ds), weighed_units f (drop kept ds)) refl

    -- ten to the place, as ten to the count of the dropped digits
    pub unit_split : kept + n ≡ c + s' → kept ≤ length ds → 10 ^ e ≡ 10 ^ length (drop kept ds) * 10 ^ (finest - s)
    unit_split keep within =
        same_power e (length (drop kept ds) + (finest - s)) (omega (arith, length-drop kept ds)) ∙ pow-add 10 (length (drop kept ds)) (finest - s)

    -- the size of digits with zeros behind them
    pub result_size : (k : ℕ) (hs : List ℕ) → weighed (finest - s') (hs ++ replicate (k + n) 0) ≡ weighed k hs * 10 ^ e
    result_size k hs = weighed-zeros (finest - s') k n hs ∙ ap (λ x. weighed k hs * 10 ^ x) (omega arith)

    rest_small : AreDigits (drop kept ds) → kept + n ≡ c + s' → kept ≤ length ds →
        weighed 0 (drop kept ds) * 10 ^ (finest - s) < 10 ^ length (drop kept ds) * 10 ^ (finest - s)
    rest_small digits keep within =
        let small : suc (weighed 0 (drop kept ds)) ≤ 10 ^ length (drop kept ds) =
        rw (zero-add (length (drop kept ds))) at (weighed_lt 0 (drop kept ds) digits) in
        omega (arith, mul-le-mul_left (10 ^ (finest - s)) small, ten_pos (finest - s))

    module _ (mode : UnsignedRoundingMode) where
      -- where the kept digits are to stay, the number that they make is taken
      pub down : AreDigits (drop kept ds) → kept + n ≡ c + s' → kept ≤ length ds →
          RoundsDownBy mode (10 ^ length (drop kept ds)) (weighed 0 (take kept ds)) (weighed 0 (drop kept ds)) →
          IsTaken (IsMultiple (10 ^ e)) mode (10 ^ e) (weighed (finest - s) ds) (weighed (finest - s') (take kept ds ++ replicate n 0))
      down digits keep within decided =
          let u = 10 ^ length (drop kept ds) in
          let p = 10 ^ (finest - s) in
          let y : weighed (finest - s') (take kept ds ++ replicate n 0) ≡ weighed 0 (take kept ds) * 10 ^ e =
          rw (zero-add n) at (result_size 0 (take kept ds)) in
          rw (size_split keep within, y, unit_split keep within)
          (down_taken mode (u * p) (weighed 0 (take kept ds)) (weighed 0 (drop kept ds) * p) (rest_small digits keep within)
          (down_times mode u (weighed 0 (take kept ds)) (weighed 0 (drop kept ds)) p (ten_pos (finest - s)) decided))

      -- where the kept digits are to be raised, the number that they make then is taken
      pub up : AreDigits (drop kept ds) → kept + n ≡ c + s' → kept ≤ length ds →
          RoundsUpBy mode (10 ^ length (drop kept ds)) (weighed 0 (take kept ds)) (weighed 0 (drop kept ds)) → (k : ℕ) (hs : List ℕ) →
          weighed k hs ≡ weighed 0 (take kept ds) + 1 → IsTaken (IsMultiple (10 ^ e)) mode (10 ^ e) (weighed (finest - s) ds)
          (weighed (finest - s') (hs ++ replicate (k + n) 0))
      up digits keep within decided k hs one_more =
          let u = 10 ^ length (drop kept ds) in
          let p = 10 ^ (finest - s) in
          let y : weighed (finest - s') (hs ++ replicate (k + n) 0) ≡ (weighed 0 (take kept ds) + 1) * 10 ^ e =
          result_size k hs ∙ ap (λ x. x * 10 ^ e) one_more in
          rw (size_split keep within, y, unit_split keep within)
          (up_taken mode (u * p) (weighed 0 (take kept ds)) (weighed 0 (drop kept ds) * p) (rest_small digits keep within)
          (up_times mode u (weighed 0 (take kept ds)) (weighed 0 (drop kept ds)) p (ten_pos (finest - s)) decided))

      -- where the power is at most that of the last digit, zeros are added and the number stays
      pub exact : s + n ≤ s' → IsTaken (IsMultiple (10 ^ e)) mode (10 ^ e) (weighed (finest - s) ds)
          (weighed (finest - s') (ds ++ replicate (s' - s) 0))
      exact finer =
          let r = s' - s - n in
          let q = weighed 0 ds * 10 ^ r in
          let power : 10 ^ (finest - s) ≡ 10 ^ r * 10 ^ e = same_power (finest - s) (r + e) (omega arith) ∙ pow-add 10 r e in
          let x : weighed (finest - s) ds ≡ q * 10 ^ e = weighed_units (finest - s) ds ∙ rw power (omega arith) in
          let back : finest - s' + (s' - s) ≡ finest - s = omega arith in
          let y : weighed (finest - s') (ds ++ replicate (s' - s) 0) ≡ weighed 0 ds * 10 ^ (finest - s' + (s' - s)) =
          rw (zero-add (s' - s)) at (weighed-zeros (finest - s') 0 (s' - s) ds) in
          let y' : weighed (finest - s') (ds ++ replicate (s' - s) 0) ≡ q * 10 ^ e =
          y ∙ ap (λ k. weighed 0 ds * 10 ^ k) back ∙ rw power (omega arith) in
          rw (x, y') (rw add-zero at (no_rest mode (10 ^ e) q 0 refl))

      -- where the power is more than one above that of the first digit, the number is less than half a unit
      less_than_half : AreDigits ds → c + s' < n → 2 * weighed 0 ds < 10 ^ (e - (finest - s))
      less_than_half digits above =
          let small : weighed 0 ds < 10 ^ length ds = rw (zero-add (length ds)) at (weighed_lt 0 ds digits) in
          let tens : 10 ^ (length ds + 1) ≤ 10 ^ (e - (finest - s)) = ten_mono (length ds + 1) (e - (finest - s)) (omega arith) in
          omega (arith, ten_more (length ds))

      unit_above : c + s' < n → 10 ^ e ≡ 10 ^ (e - (finest - s)) * 10 ^ (finest - s)
      unit_above above = same_power e ((e - (finest - s)) + (finest - s)) (omega arith) ∙ pow-add 10 (e - (finest - s)) (finest - s)

      rest_above : AreDigits ds → c + s' < n → weighed 0 ds * 10 ^ (finest - s) < 10 ^ (e - (finest - s)) * 10 ^ (finest - s)
      rest_above digits above =
          let small : suc (weighed 0 ds) ≤ 10 ^ (e - (finest - s)) = omega (arith, less_than_half digits above) in
          omega (arith, mul-le-mul_left (10 ^ (finest - s)) small, ten_pos (finest - s))

      -- then zero is taken, or the unit where the mode rounds up
      pub nothing : AreDigits ds → c + s' < n → ((unit : ℕ) → 2 * weighed 0 ds < unit → RoundsDownBy mode unit 0 (weighed 0 ds)) →
          IsTaken (IsMultiple (10 ^ e)) mode (10 ^ e) (weighed (finest - s) ds) (weighed (finest - s') (replicate n 0))
      nothing digits above decided =
          let u = 10 ^ (e - (finest - s)) in
          let p = 10 ^ (finest - s) in
          let e1 : 0 * (u * p) + weighed 0 ds * p ≡ weighed 0 ds * p = omega arith in
          let e2 : 0 * (u * p) ≡ 0 = omega arith in
          rw (weighed-replicate_zero (finest - s') n, weighed_units (finest - s) ds, unit_above above)
          (rw (e1, e2) at (down_taken mode (u * p) 0 (weighed 0 ds * p) (rest_above digits above)
          (down_times mode u 0 (weighed 0 ds) p (ten_pos (finest - s)) (decided u (less_than_half digits above)))))

      pub one_unit : AreDigits ds → c + s' < n → ((unit : ℕ) → 2 * weighed 0 ds < unit → RoundsUpBy mode unit 0 (weighed 0 ds)) →
          IsTaken (IsMultiple (10 ^ e)) mode (10 ^ e) (weighed (finest - s) ds) (weighed (finest - s') (1 ∷ replicate n 0))
      one_unit digits above decided =
          let u = 10 ^ (e - (finest - s)) in
          let p = 10 ^ (finest - s) in
          let y : weighed (finest - s') (1 ∷ replicate n 0) ≡ weighed 0 (1 ∷ []) * 10 ^ e = rw (zero-add n) at (result_size 0 (1 ∷ [])) in
          let one : weighed 0 (1 ∷ []) ≡ 0 + 1 = omega arith in
          let e1 : 0 * (u * p) + weighed 0 ds * p ≡ weighed 0 ds * p = omega arith in
          rw (y, one, weighed_units (finest - s) ds, unit_above above)
          (rw e1 at (up_taken mode (u * p) 0 (weighed 0 ds * p) (rest_above digits above)
          (up_times mode u 0 (weighed 0 ds) p (ten_pos (finest - s)) (decided u (less_than_half digits above)))))
