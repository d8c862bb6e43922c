-- The digits of a number, found from the last one on.
use Rattle.std.proofs.Common.{◌≡◌, ◌≢◌, ℕ, ◌+◌, ◌-◌, ◌*◌, ◌/◌, ◌%◌, ◌^◌, ◌<◌, ◌≤◌, List, [], ◌∷◌}
use Rattle.std.proofs.Common.{◌++◌, length, get_or, reverse, refl, ◌∙◌, ap, arith, inl, inr, ℤ, pos, ◌-ℤ◌}
use Rattle.std.proofs.lemmas.List.{reverse-append, length-reverse, length_push, get_or-reverse}
use Rattle.std.proofs.lemmas.List.Elements.{All-cons, All-nil, All-push}
use Rattle.std.proofs.lemmas.Bool.{cases_lt, cases_eq}
use Rattle.std.proofs.Math.Nat.{mul-le-mul_left}
use Rattle.std.proofs.lemmas.Int.{ints}
use Rattle.fixed_decimal.specs.Unsigned.{AreDigits, IsUnsigned}
use Rattle.fixed_decimal.specs.Size.{weighed, finest}
use Rattle.fixed_decimal.proofs.Magnitudes.{IsMagnitude, magnitude_first}
use Rattle.fixed_decimal.proofs.Weights.{ten_pos, ten_mono, ten_more, same_power, weighed_units}

-- a number is the digits found so far, the last one first, and the rest, which stands before them
pub record IsSplit (number rest : ℕ) (found : List ℕ) : Type 0 where
  pub sum : rest * 10 ^ length found + weighed 0 (reverse found) ≡ number
  pub below_ten : AreDigits found
  pub some : 0 < length found
  pub zero_short : number ≡ 0 → length found ≡ 1
  pub first : rest ≡ 0 → 0 < number → get_or (reverse found) 0 0 ≢ 0

-- the last digit of a number, and what is left of it
pub split_start : (number : ℕ) → IsSplit number (number / 10) (number % 10 ∷ [])
split_start number = record {
  sum = omega arith;
  below_ten = All-cons (λ d. d < 10) (number % 10) [] (omega arith) (All-nil (λ d. d < 10));
  some = omega arith;
  zero_short = λ _. refl;
  first = λ e h. (λ f. omega arith);
}

-- one more digit is split off
pub split_more : (number rest : ℕ) (found : List ℕ) → 0 < rest → IsSplit number rest found → IsSplit number (rest / 10) (found ++ rest % 10 ∷ [])
split_more number rest found some is =
    let back : reverse (found ++ rest % 10 ∷ []) ≡ rest % 10 ∷ reverse found = reverse-append found (rest % 10 ∷ []) in
    let l : length (found ++ rest % 10 ∷ []) ≡ length found + 1 = length_push found (rest % 10) in
    let power : 10 ^ length (found ++ rest % 10 ∷ []) ≡ 10 * 10 ^ length found = same_power _ (length found + 1) l ∙ ten_more (length found) in
    let place : 10 ^ (0 + length (reverse found)) ≡ 10 ^ length found = same_power _ _ (omega (arith, length-reverse found)) in
    let one : 1 ≤ rest = some in
    let q : rest ≡ 10 * (rest / 10) + rest % 10 = omega arith in
    record {
      sum = rw (back, power) (omega (arith, ap (λ n. rest % 10 * n) place, is.sum, ap (λ n. n * 10 ^ length found) q));
      below_ten = All-push (λ d. d < 10) found (rest % 10) is.below_ten (omega arith);
      some = omega arith;
      zero_short = λ e. absurd (omega (arith, is.sum, ten_pos (length found), mul-le-mul_left (10 ^ length found) one));
      first = λ e h. rw back (λ f. omega arith);
    }

-- while something is left of a number of 64 bits, fewer than twenty digits are found
pub split_short : (number rest : ℕ) (found : List ℕ) → 0 < rest → number < 2 ^ 64 → IsSplit number rest found → length found < 20
split_short number rest found some small is =
    elim (cases_lt (length found) 20) [
      | inl h ↦ h
      | inr h ↦ absurd (omega (arith, ten_mono 20 (length found) h, is.sum, mul-le-mul_left (10 ^ length found) one))
    ]
  where
    one : 1 ≤ rest
    one = some

-- where nothing is left, the digits write the number
pub split_number : (number rest : ℕ) (found : List ℕ) → rest ≤ 0 → IsSplit number rest found → weighed 0 (reverse found) ≡ number
split_number number rest found none is =
    let zero : rest ≡ 0 = omega arith in
    let sum : 0 * 10 ^ length found + weighed 0 (reverse found) ≡ number = rw zero at is.sum in
    omega (arith, sum)

-- the digits that were split off have the size of the number
pub split_size : (number rest : ℕ) (found ds : List ℕ) → ds ≡ reverse found → rest ≤ 0 → IsSplit number rest found →
    weighed (finest - 0) ds ≡ number * 10 ^ (finest + 0)
split_size number rest found ds e none is =
    let same : finest - 0 ≡ finest + 0 = omega arith in
    rw (e, same) (weighed_units (finest + 0) (reverse found) ∙ ap (λ n. n * 10 ^ (finest + 0)) (split_number number rest found none is))

-- digits in reverse order are digits
pub AreDigits-reverse : (ds : List ℕ) → AreDigits ds → AreDigits (reverse ds)
AreDigits-reverse ds h k d l =
    let inside : k < length ds = omega (arith, length-reverse ds) in
    rw (get_or-reverse ds k d inside) (h (length ds - 1 - k) d (omega arith))

-- the digits that were split off are a decimal
pub split_valid : (number rest : ℕ) (found ds : List ℕ) → ds ≡ reverse found → length found ≤ 20 → IsSplit number rest found →
    IsUnsigned (record { digits = ds; scale = 0 })
split_valid number rest found ds e few is =
    let l : length ds ≡ length found = ap length e ∙ length-reverse found in
    record {
      below_ten = rw e (AreDigits-reverse found is.below_ten);
      integer_some = omega (arith, is.some);
      high_limit = omega arith;
      low_limit = omega arith;
    }

-- the magnitude of the number is the greatest power of the digits that were split off
pub split_high : (number rest : ℕ) (found ds : List ℕ) (m : ℤ) → ds ≡ reverse found → rest ≤ 0 → IsSplit number rest found →
    m ≡ pos (length ds - 0) -ℤ pos 1 → IsMagnitude (weighed (finest - 0) ds) m
split_high number rest found ds m e none is at_high =
    let l : length ds ≡ length found = ap length e ∙ length-reverse found in
    let digits : AreDigits ds = rw e (AreDigits-reverse found is.below_ten) in
    elim (cases_eq number 0) [
      | inl nought ↦ inl (
        split_size number rest found ds e none is ∙ ap (λ n. n * 10 ^ (finest + 0)) nought ∙ none_at (finest + 0),
        omega (arith, ints, is.zero_short nought),
      )
      | inr other ↦
          let first : get_or ds 0 0 ≢ 0 = rw e (is.first (omega arith) (omega arith)) in
          magnitude_first ds 0 0 m digits (omega arith) (omega (arith, is.some)) refl (omega (arith, is.some)) first (omega (arith, ints))
    ]
  where
    none_at : (k : ℕ) → 0 * 10 ^ k ≡ 0
    none_at k = omega arith
