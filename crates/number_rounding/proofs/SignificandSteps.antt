-- A number over ten to an exponent, and how many digits below power 0 it needs.
use Rattle.std.proofs.Common.{◌≡◌, ◌≢◌, ◌↔◌, ℕ, zero, suc, ◌+◌, ◌-◌, ◌*◌, ◌^◌, ◌/◌, ◌%◌, ◌<◌, ◌≤◌}
use Rattle.std.proofs.Common.{inl, inr, refl, sym, ◌∙◌, ap, arith}
use Rattle.std.proofs.Common.{length, take, drop, get_or, ◌++◌, ℤ, pos, negsuc, ◌-ℤ◌, Bool, true, false, All, IsTrue, eq-eqb, ne_eqb}
use Rattle.std.specs.Prelude.{◌==◌}
use Rattle.std.proofs.lemmas.Int.{ints}
use Rattle.std.proofs.lemmas.Bool.{cases_eq, cases_lt}
use Rattle.std.proofs.lemmas.Nat.{mod-mul-add}
use Rattle.std.proofs.lemmas.List.{length-drop, take-append-drop}
use Rattle.std.proofs.lemmas.List.Elements.{All-drop, All-get_or}
use Rattle.fixed_decimal.specs.Unsigned.{Unsigned, IsUnsigned, integer_count, fraction, low, digit_at}
use Rattle.fixed_decimal.specs.Size.{weighed, finest, size}
use Rattle.fixed_decimal.specs.Modes.{IsLeastFrom}
use Rattle.fixed_decimal.specs.Padding.{IsExactWith}
use Rattle.fixed_decimal.specs.Rounding.{zeros_at}
use Rattle.fixed_decimal.specs.Scaling.{IsTimesTenTo, MovesPastLimits}
use Rattle.fixed_decimal.specs.Trimming.{IsTrimmed}
use Rattle.fixed_decimal.proofs.Weights.{weighed-append, weighed_units, weighed_times, weighed_lt, weighed_none, none_weighed, ten_pos}
use Rattle.fixed_decimal.proofs.Rounds.{finest_large}
use Rattle.fixed_decimal.proofs.Places.{digit_at_place}
use Rattle.fixed_decimal.proofs.Padded.{not_fewer}
use Rattle.number_rounding.specs.Shown.{is_whole}
use Rattle.number_rounding.proofs.PlaceLemmas.{finest_is}

-- divided by ten to an exponent
pub times_down : (k : ℤ) (e x y : ℕ) → k ≡ pos 0 -ℤ pos e → IsTimesTenTo k x y → y * 10 ^ e ≡ x
times_down (pos n) e x y same times =
    let none : e ≡ 0 = omega (arith, ints) in
    let n_is : n ≡ 0 = omega (arith, ints) in
    let one : 10 ^ e ≡ 1 = ap (λ p. 10 ^ p) none in
    let zeros : zeros_at (pos n) ≡ 0 = n_is in
    let one' : 10 ^ n ≡ 1 = ap (λ p. 10 ^ p) zeros in
    let whole : y * 1 ≡ x * 1 = rw one' at times in
    rw one (omega (arith, whole))
times_down (negsuc n) e x y same times =
    let n_is : e ≡ n + 1 = omega (arith, ints) in
    rw n_is (omega (arith, times))

-- that many digits below power 0, or one more
written_more : (x n : ℕ) → (finest ≤ n) → IsExactWith x n
written_more x n h = let none : finest - n ≡ 0 = omega arith in (x, let one : 10 ^ (finest - n) ≡ 1 = ap (λ p. 10 ^ p) none in rw one (omega arith))

-- some least count of digits writes a size
pub least_count : (steps x least : ℕ) → finest ≤ least + steps → (n : ℕ) × IsLeastFrom (IsExactWith x) least n
least_count zero x least h =
    (least, record { allowed = written_more x least (omega arith); from = omega arith; least = λ z _ le. le })
least_count (suc steps) x least h = elim (cases_eq (x % 10 ^ (finest - least)) 0) [
  | inl whole ↦ (least, record { allowed = (x / 10 ^ (finest - least), omega (arith, ten_pos (finest - least))); from = omega arith; least = λ z _ le. le })
  | inr rest ↦
      let more = least_count steps x (least + 1) (omega arith) in (
        more.0,
        record {
          allowed = more.1.allowed;
          from = omega (arith, more.1.from);
          least = λ z written le. elim (cases_eq z least) [
            | inl same ↦ absurd (not_here (rw same at written) rest)
            | inr other ↦ more.1.least z written (omega arith)
          ];
        },
      )
]
  where
    not_here : IsExactWith x least → x % 10 ^ (finest - least) ≢ 0 → ⊥
    not_here (k, e) rest = rest (ap (λ n. n % 10 ^ (finest - least)) (let same : x ≡ k * 10 ^ (finest - least) + 0 = omega (arith, e) in same)
        ∙ mod-mul-add k (10 ^ (finest - least)) 0 (ten_pos (finest - least)))

-- The trimmed decimal t, over ten to an exponent, has more digits below power 0 than a decimal may have.
module _ (t : Unsigned) (e : ℕ) (is : IsUnsigned t) (trimmed : IsTrimmed t) (small : e < 256) where
  -- moving passes the limits below alone
  below_alone : (k : ℤ) → k ≡ pos 0 -ℤ pos e → MovesPastLimits t k → 32768 < t.scale + e
  below_alone k same (inl h) = absurd (omega (arith, ints, is.high_limit, is.integer_some))
  below_alone k same (inr h) = omega (arith, ints)

  -- the size is ten to the exponent times a size that that many digits don't write
  pub too_many_below : (k : ℤ) → k ≡ pos 0 -ℤ pos e → MovesPastLimits t k →
      (s : ℕ) × (s * 10 ^ e ≡ size t) × ((n : ℕ) → IsExactWith s n → 32768 < n)
  too_many_below k same past =
      let many : 32768 < t.scale + e = below_alone k same past in
      let fine : t.scale + e ≤ finest = omega (arith, finest_is, is.low_limit) in
      let place : finest - (t.scale + e) + e ≡ finest - t.scale = omega arith in (
        weighed (finest - (t.scale + e)) t.digits,
        sym (weighed_times (finest - (t.scale + e)) e t.digits) ∙ ap (λ p. weighed p t.digits) place,
        λ n written. elim (cases_lt 32768 n) [
          | inl over ↦ over
          | inr under ↦ absurd (fewer fine n written (omega arith) trimmed)
        ],
      )
    where
      fewer : t.scale + e ≤ finest → (n : ℕ) → IsExactWith (weighed (finest - (t.scale + e)) t.digits) n → n < t.scale + e → IsTrimmed t → ⊥
      fewer fine n written h (inl none) = omega (arith, ints, below_alone k same past)
      fewer fine n written h (inr last) =
          let at : digit_at t (low t) ≡ get_or t.digits (length t.digits - 1) 0 =
          digit_at_place t (low t) (length t.digits - 1) is.integer_some (omega (arith, ints, is.integer_some)) in
          not_fewer t.digits (t.scale + e) (omega (arith, is.integer_some)) fine n (rw at at last)
          (All-get_or (λ d. d < 10) t.digits (length t.digits - 1) 0 (omega (arith, is.integer_some)) is.below_ten) h written

-- what is left of a size beside whole numbers is the weight of the digits below power 0
left_beside : (d : Unsigned) → IsUnsigned d → size d % 10 ^ finest ≡ weighed (finest - d.scale) (fraction d)
left_beside d is =
    let e = finest - d.scale in
    let n = integer_count d in
    let xs = take n d.digits in
    let ys = drop n d.digits in
    let count : length ys ≡ d.scale = omega (arith, length-drop n d.digits, is.integer_some) in
    let place : e + length ys ≡ finest = omega (arith, finest_large, is.low_limit) in
    let split : weighed e (xs ++ ys) ≡ weighed finest xs + weighed e ys = rw place at (weighed-append e xs ys) in
    let whole : size d ≡ weighed 0 xs * 10 ^ finest + weighed e ys =
    ap (weighed e) (sym (take-append-drop n d.digits)) ∙ split ∙ ap (λ w. w + weighed e ys) (weighed_units finest xs) in
    let small : weighed e ys < 10 ^ finest = rw place at (weighed_lt e ys (All-drop (λ x. x < 10) n d.digits is.below_ten)) in
    ap (λ x. x % 10 ^ finest) whole ∙ mod-mul-add (weighed 0 xs) (10 ^ finest) (weighed e ys) small

-- a test that the digits below power 0 are zeros tells whether a decimal is whole
pub whole_test : (d : Unsigned) (b : Bool) → IsUnsigned d → IsTrue b ↔ All (λ x. x ≡ 0) (fraction d) → b ≡ is_whole (size d)
whole_test d b is test = rw (left_beside d is) (go b test)
  where
    go : (b : Bool) → IsTrue b ↔ All (λ x. x ≡ 0) (fraction d) → b ≡ (weighed (finest - d.scale) (fraction d) == 0)
    go true t = sym (eq-eqb (weighed (finest - d.scale) (fraction d)) 0 (weighed_none (finest - d.scale) (fraction d) (t.0 refl)))
    go false t =
        sym (ne_eqb (weighed (finest - d.scale) (fraction d)) 0 (λ none. absurd (let wrong = t.1 (none_weighed (finest - d.scale) (fraction d) none) in cc)))
