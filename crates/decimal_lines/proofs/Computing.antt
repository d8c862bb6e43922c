-- The computed compact number and decimal are what the relations ask for.
-- That `rounded_units` is nearest is one of four lemmas of fixed_decimal's Nearness: by whether the rest is below half a unit, above it, or just half
-- behind an even or an odd number of units. What digits weigh is shown by induction on their count, together with the rest below the last
-- place (`weighed-between`): without the rest the equation is false in the step, where fewer digits no longer hold all of x.
-- `scale_up_to` goes down from the most digits below power 0 to the first that is needed. That these are enough (`scale-enough`) and that
-- no fewer are (`scale-least`) are two inductions; the second gives that the last digit isn't 0.
use Rattle.std.proofs.Common.{
  ◌≡◌,
  ℕ,
  suc,
  zero,
  ◌+◌,
  ◌-◌,
  ◌*◌,
  ◌/◌,
  ◌%◌,
  ◌^◌,
  ◌<◌,
  ◌≤◌,
  inl,
  inr,
  List,
  length,
  get_or,
  refl,
  sym,
  ap,
  ◌∙◌,
  arith,
  Bool,
  true,
  false,
  nat_lt,
  zero-add,
  add-zero,
  mul_assoc,
  negsuc,
}
use Rattle.std.specs.Prelude.{◌==◌, if◌then◌else◌}
use Rattle.std.proofs.lemmas.Bool.Decides.{nat_tests}
use Rattle.std.proofs.lemmas.Int.{ints}
use Rattle.std.proofs.lemmas.Nat.{mod-mul-add}
use Rattle.std.proofs.lemmas.List.{get_or-drop}
use Rattle.std.proofs.lemmas.List.Elements.{All-nil, All-cons}
use Rattle.std.proofs.Math.Nat.{mod-lt, mod-eq_of_lt, mul-le-mul_left, mul-mod_left}
use Rattle.fixed_decimal.specs.Unsigned.{IsUnsigned, AreDigits, integer_count, low, digit_at}
use Rattle.fixed_decimal.specs.Size.{finest, weighed, size}
use Rattle.fixed_decimal.specs.Trimming.{IsTrimmed}
use Rattle.fixed_decimal.specs.Nearest.{IsMultiple, IsNearest}
use Rattle.fixed_decimal.proofs.MagnitudePlaces.{ten_multiple}
use Rattle.fixed_decimal.proofs.Weights.{ten_pos, ten_more}
use Rattle.fixed_decimal.proofs.Rounds.{finest_large}
use Rattle.fixed_decimal.proofs.Nearness.{nearest_below, nearest_above, nearest_tie_even, nearest_tie_odd}
use Rattle.decimal_lines.specs.Computed.{rounded_units, digits_from, scale_up_to, scale_of, decimal_of}

-- that many units are nearest
pub rounded-nearest : (u x : ℕ) → 0 < u → IsNearest (IsMultiple u) u x (rounded_units u x * u)
unfolding rounded_units
rounded-nearest u x some = go (nat_lt (2 * (x % u)) u) (nat_lt u (2 * (x % u))) refl refl
  where
    split : x / u * u + x % u ≡ x
    split = omega arith

    small : x % u < u
    small = omega arith

    tie : (b : ℕ) → x / u % 2 ≡ b → 2 * (x % u) ≡ u → IsNearest (IsMultiple u) u x ((x / u + b) * u)
    tie b e half = tie_cases b e half
      where
        tie_cases : (b : ℕ) → x / u % 2 ≡ b → 2 * (x % u) ≡ u → IsNearest (IsMultiple u) u x ((x / u + b) * u)
        tie_cases zero e half =
            let same : x / u + 0 ≡ x / u = omega arith in
            rw same (rw split at (nearest_tie_even u (x / u) (x % u) (x / u / 2) half (omega arith)))
        tie_cases (suc zero) e half = rw split at (nearest_tie_odd u (x / u) (x % u) (x / u / 2 + 1) half (omega arith))
        tie_cases (suc (suc b)) e half = absurd (omega (arith, mod-lt (x / u) {m = 2} (omega arith)))

    go : (a b : Bool) → nat_lt (2 * (x % u)) u ≡ a → nat_lt u (2 * (x % u)) ≡ b →
        IsNearest (IsMultiple u) u x ((if a then (x / u) else (if b then (x / u + 1) else (x / u + x / u % 2))) * u)
    go true b p q = rw split at (nearest_below u (x / u) (x % u) (grind (arith, nat_tests)))
    go false true p q = rw split at (nearest_above u (x / u) (x % u) (omega arith) (grind (arith, nat_tests)))
    go false false p q = tie (x / u % 2) refl (grind (arith, nat_tests))

-- one digit more of the rest
pub rest_more : (x p : ℕ) → 0 < p → x / p % 10 * p + x % p ≡ x % (10 * p)
rest_more x p some =
    let q : ℕ = x / p in
    let small : x % p < p = omega arith in
    let digit : q % 10 ≤ 9 = omega arith in
    let high = mul-le-mul_left p digit in
    let below : q % 10 * p + x % p < 10 * p = omega arith in
    let tens : q ≡ q / 10 * 10 + q % 10 = omega arith in
    let whole : x ≡ q * p + x % p = omega arith in
    let parts : x ≡ q / 10 * (10 * p) + (q % 10 * p + x % p) = whole ∙ ap (λ n. n * p + x % p) tens ∙ omega arith in
    sym (ap (λ n. n % (10 * p)) parts ∙ mod-mul-add (q / 10) (10 * p) (q % 10 * p + x % p) below)

-- there are as many digits as are asked for
pub length-digits_from : (x e n : ℕ) → length (digits_from x e n) ≡ n
unfolding digits_from
length-digits_from x e zero = refl
length-digits_from x e (suc n) = ap suc (length-digits_from x e n)

-- each of them is below ten
pub digits_from-digits : (x e n : ℕ) → AreDigits (digits_from x e n)
unfolding digits_from
digits_from-digits x e zero = All-nil (λ d. d < 10)
digits_from-digits x e (suc n) = All-cons (λ d. d < 10) (x / 10 ^ (e + n) % 10) (digits_from x e n) (mod-lt (x / 10 ^ (e + n)) (omega arith))
    (digits_from-digits x e n)

-- the digits weigh what lies between the two places
weighed-between : (x e n : ℕ) → weighed e (digits_from x e n) + x % 10 ^ e ≡ x % 10 ^ (e + n)
unfolding digits_from
weighed-between x e zero = zero-add (x % 10 ^ e) ∙ ap (λ k. x % 10 ^ k) (sym (add-zero e))
weighed-between x e (suc n) =
    let more : 10 ^ (e + suc n) ≡ 10 * 10 ^ (e + n) = ap (λ k. 10 ^ k) (omega arith) ∙ ten_more (e + n) in
    rw (length-digits_from x e n, more) (omega (arith, weighed-between x e n, rest_more x (10 ^ (e + n)) (ten_pos (e + n))))

-- where they hold all of x, they weigh x
pub weighed-digits_from : (x e n : ℕ) → x % 10 ^ e ≡ 0 → x < 10 ^ (e + n) → weighed e (digits_from x e n) ≡ x
weighed-digits_from x e n whole below = omega (arith, weighed-between x e n, mod-eq_of_lt below)

-- the last digit
last-digits_from : (x e n : ℕ) → get_or (digits_from x e (suc n)) n 0 ≡ x / 10 ^ e % 10
unfolding digits_from
last-digits_from x e zero = ap (λ k. x / 10 ^ k % 10) (omega arith)
last-digits_from x e (suc n) = last-digits_from x e n

-- the digits below power 0 are at most as many as are allowed
scale-le : (x n : ℕ) → scale_up_to x n ≤ n
unfolding scale_up_to
scale-le x zero = omega arith
scale-le x (suc n) = go (x % 10 ^ (finest - n) == 0) (scale-le x n)
  where
    go : (b : Bool) → scale_up_to x n ≤ n → (if b then scale_up_to x n else suc n) ≤ suc n
    go true h = omega (arith, h)
    go false h = omega arith

-- they are enough
scale-enough : (x n : ℕ) → x % 10 ^ (finest - n) ≡ 0 → x % 10 ^ (finest - scale_up_to x n) ≡ 0
unfolding scale_up_to
scale-enough x zero h = h
scale-enough x (suc n) h = go (x % 10 ^ (finest - n) == 0) refl (scale-enough x n)
  where
    go : (b : Bool) → (x % 10 ^ (finest - n) == 0) ≡ b → (x % 10 ^ (finest - n) ≡ 0 → x % 10 ^ (finest - scale_up_to x n) ≡ 0) →
        x % 10 ^ (finest - (if b then scale_up_to x n else suc n)) ≡ 0
    go true e fewer = fewer (grind (arith, nat_tests))
    go false e fewer = h

-- no fewer are enough
scale-least : (x n k : ℕ) → scale_up_to x n ≡ suc k → ¬ (x % 10 ^ (finest - k) ≡ 0)
unfolding scale_up_to
scale-least x zero k e = absurd (omega arith)
scale-least x (suc n) k e = go (x % 10 ^ (finest - n) == 0) refl (scale-least x n k) e
  where
    go : (b : Bool) → (x % 10 ^ (finest - n) == 0) ≡ b → (scale_up_to x n ≡ suc k → ¬ (x % 10 ^ (finest - k) ≡ 0)) →
        (if b then scale_up_to x n else suc n) ≡ suc k → ¬ (x % 10 ^ (finest - k) ≡ 0)
    go true t fewer e = fewer e
    go false t fewer e =
        let same : n ≡ k = omega arith in
        λ z.
        let here : x % 10 ^ (finest - n) ≡ 0 = ap (λ j. x % 10 ^ (finest - j)) same ∙ z in
        absurd (grind (arith, nat_tests))

-- they write a size that 32768 digits below power 0 write
pub scale_of-enough : (x : ℕ) → x % 10 ^ (finest - 32768) ≡ 0 → x % 10 ^ (finest - scale_of x) ≡ 0
unfolding scale_of
scale_of-enough x whole = scale-enough x 32768 whole

-- and a size that n digits write needs no more than these
pub scale_of-at_most : (x n : ℕ) → IsMultiple (10 ^ (finest - n)) x → scale_of x ≤ n
unfolding scale_of
scale_of-at_most x n (q, whole) = go (scale_up_to x 32768) refl
  where
    more : (k : ℕ) → n ≤ k → x % 10 ^ (finest - k) ≡ 0
    more k few = by_factor (ten_multiple (finest - k) (finest - n) (omega arith))
      where
        by_factor : IsMultiple (10 ^ (finest - k)) (10 ^ (finest - n)) → x % 10 ^ (finest - k) ≡ 0
        by_factor (r, e) = ap (λ y. y % 10 ^ (finest - k)) (whole ∙ ap (λ y. q * y) e ∙ sym (mul_assoc q r (10 ^ (finest - k))))
            ∙ mul-mod_left (q * r) (10 ^ (finest - k))

    small : (k : ℕ) → ¬ (n ≤ k) → suc k ≤ n
    small k large = grind arith

    go : (s : ℕ) → scale_up_to x 32768 ≡ s → s ≤ n
    go zero e = omega arith
    go (suc k) e = small k (λ few. scale-least x 32768 k e (more k few))

-- A size that fits: that many digits at power 0 and above, and 32768 below.
module _ (count x : ℕ) (some : 0 < count) (few : count ≤ 32768) (whole : x % 10 ^ (finest - 32768) ≡ 0) (below : x < 10 ^ (finest + count)) where
  scale_within : scale_of x ≤ 32768
  unfolding scale_of
  scale_within = scale-le x 32768

  scale_whole : x % 10 ^ (finest - scale_of x) ≡ 0
  unfolding scale_of
  scale_whole = scale-enough x 32768 whole

  scale_needed : (k : ℕ) → scale_of x ≡ suc k → ¬ (x % 10 ^ (finest - k) ≡ 0)
  unfolding scale_of
  scale_needed k e = scale-least x 32768 k e

  length_is : length (decimal_of count x).digits ≡ count + scale_of x
  length_is = length-digits_from x (finest - scale_of x) (count + scale_of x)

  -- what is computed of a size is a number
  pub decimal-unsigned : IsUnsigned (decimal_of count x)
  decimal-unsigned = record {
    below_ten = digits_from-digits x (finest - scale_of x) (count + scale_of x);
    integer_some = omega (arith, length_is);
    high_limit = omega (arith, length_is);
    low_limit = scale_within;
  }

  -- it has this size
  pub decimal-size : size (decimal_of count x) ≡ x
  decimal-size =
      let same : finest + count ≡ finest - scale_of x + (count + scale_of x) = omega (arith, scale_within, finest_large) in
      weighed-digits_from x (finest - scale_of x) (count + scale_of x) scale_whole (rw same at below)

  -- it has that many integer digits
  pub decimal-count : integer_count (decimal_of count x) ≡ count
  decimal-count = omega (arith, length_is)

  -- its fraction has no zero at its end
  pub decimal-trimmed : IsTrimmed (decimal_of count x)
  decimal-trimmed = go (scale_of x) refl
    where
      last_is : (k : ℕ) → scale_of x ≡ suc k → digit_at (decimal_of count x) (negsuc k) ≡ x / 10 ^ (finest - suc k) % 10
      last_is k e =
          let ds : List ℕ = digits_from x (finest - scale_of x) (count + scale_of x) in
          let many : count + scale_of x ≡ suc (count + k) = omega arith in
          get_or-drop (integer_count (decimal_of count x)) ds k 0
          ∙ ap (λ n. get_or ds (n + k) 0) decimal-count
          ∙ ap (λ n. get_or (digits_from x (finest - scale_of x) n) (count + k) 0) many
          ∙ last-digits_from x (finest - scale_of x) (count + k)
          ∙ ap (λ n. x / 10 ^ (finest - n) % 10) e

      go : (n : ℕ) → scale_of x ≡ n → IsTrimmed (decimal_of count x)
      go zero e = inl (omega (arith, ints))
      go (suc k) e =
          let is_low : low (decimal_of count x) ≡ negsuc k = omega (arith, ints) in
          let up : 10 ^ (finest - k) ≡ 10 * 10 ^ (finest - suc k) =
          ap (λ n. 10 ^ n) (omega (arith, scale_within, finest_large)) ∙ ten_more (finest - suc k) in
          let rest : x % 10 ^ (finest - suc k) ≡ 0 = ap (λ n. x % 10 ^ (finest - n)) (sym e) ∙ scale_whole in
          inr (λ z.
          let none : x / 10 ^ (finest - suc k) % 10 ≡ 0 = sym (last_is k e) ∙ ap (digit_at (decimal_of count x)) (sym is_low) ∙ z in
          let nothing : x / 10 ^ (finest - suc k) % 10 * 10 ^ (finest - suc k) ≡ 0 = rw none (omega arith) in
          absurd (scale_needed k e (ap (λ n. x % n) up ∙ sym (rest_more x (10 ^ (finest - suc k)) (ten_pos (finest - suc k))) ∙ omega arith)))
