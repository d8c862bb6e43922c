-- Which of two lists of digits weighs more, told from the front.
use Rattle.std.proofs.Common.{◌≡◌, ◌≢◌, ◌↔◌, ℕ, zero, suc, ◌+◌, ◌-◌, ◌*◌, ◌^◌}
use Rattle.std.proofs.Common.{◌<◌, ◌≤◌, List, [], ◌∷◌, length, drop, slice_index, Bool, false}
use Rattle.std.proofs.Common.{IsTrue, refl, sym, ap, ◌∙◌, subst, arith}
use Rattle.std.proofs.Common.{inl, inr}
use Rattle.std.proofs.lemmas.Bool.{cases_lt}
use Rattle.std.proofs.Math.Nat.{mul-le-mul_left}
use Rattle.fixed_decimal.specs.Unsigned.{AreDigits}
use Rattle.fixed_decimal.specs.Size.{weighed}
use Rattle.fixed_decimal.proofs.Weights.{AreDigits-tail, ten_pos, weighed_lt}
use Rattle.icu_ranges.specs.Digits.{TellsHeavier}

-- the digits from one on: that digit at its place, and the digits behind it
pub weighed_from : (e : ℕ) (xs : List ℕ) (i : ℕ) →
    weighed e (drop i xs) ≡ slice_index xs i * 10 ^ (e + length xs - suc i) + weighed e (drop (suc i) xs)
weighed_from e [] zero = omega arith
weighed_from e [] (suc i) = omega arith
weighed_from e (x ∷ xs) zero = ap (λ n. x * 10 ^ n + weighed e xs) (omega arith)
weighed_from e (x ∷ xs) (suc i) =
    weighed_from e xs i ∙ ap (λ n. slice_index xs i * 10 ^ n + weighed e (drop (suc i) xs)) (omega arith)

-- the digits behind one weigh less than a unit at its place
pub weighed_behind : (e : ℕ) (xs : List ℕ) (i : ℕ) → AreDigits xs → weighed e (drop (suc i) xs) < 10 ^ (e + length xs - suc i)
weighed_behind e [] i h = ten_pos (e + 0 - suc i)
weighed_behind e (x ∷ xs) zero h =
    subst (λ n. weighed e xs < 10 ^ n) (omega arith) (weighed_lt e xs (AreDigits-tail x xs h))
weighed_behind e (x ∷ xs) (suc i) h =
    subst (λ n. weighed e (drop (suc i) xs) < 10 ^ n) (omega arith) (weighed_behind e xs i (AreDigits-tail x xs h))

-- the first i digits of both weigh the same
pub record SameSoFar (xs ys : List ℕ) (i : ℕ) : Type 0 where
  pub same : (e f : ℕ) → e + length xs ≡ f + length ys → weighed e xs + weighed f (drop i ys) ≡ weighed f ys + weighed e (drop i xs)

-- no digits do
pub same_at_start : (xs ys : List ℕ) → SameSoFar xs ys 0
same_at_start xs ys = record { same = λ e f h. omega arith }

-- the weights of digits at one place, by the digits
same_place : (e f : ℕ) (xs ys : List ℕ) (i : ℕ) → e + length xs ≡ f + length ys → 10 ^ (f + length ys - suc i) ≡ 10 ^ (e + length xs - suc i)
same_place e f xs ys i h = ap (λ n. 10 ^ (n - suc i)) (sym h)

-- one equal digit more
pub same_next : (xs ys : List ℕ) (i : ℕ) → slice_index xs i ≡ slice_index ys i → SameSoFar xs ys i → SameSoFar xs ys (suc i)
same_next xs ys i equal s = record {
  same = λ e f h.
      let x = weighed_from e xs i in
      let y = weighed_from f ys i in
      let p : slice_index ys i * 10 ^ (f + length ys - suc i) ≡ slice_index xs i * 10 ^ (e + length xs - suc i) =
      ap (λ n. slice_index ys i * n) (same_place e f xs ys i h) ∙ ap (λ d. d * 10 ^ (e + length xs - suc i)) (sym equal) in
      omega (arith, s.same e f h, x, y, p);
}

-- where the first digit that differs is less, so is the weight
pub less_by_digit : (e f : ℕ) (xs ys : List ℕ) (i : ℕ) → AreDigits ys → SameSoFar xs ys i → e + length xs ≡ f + length ys →
    slice_index ys i < slice_index xs i → weighed f ys < weighed e xs
less_by_digit e f xs ys i digits s h less =
    let unit : ℕ = 10 ^ (e + length xs - suc i) in
    let y : weighed f (drop i ys) ≡ slice_index ys i * unit + weighed f (drop (suc i) ys) =
    weighed_from f ys i ∙ ap (λ n. slice_index ys i * n + weighed f (drop (suc i) ys)) (same_place e f xs ys i h) in
    let small : weighed f (drop (suc i) ys) < unit = subst (λ n. weighed f (drop (suc i) ys) < n) (same_place e f xs ys i h) (weighed_behind f ys i digits) in
    go (slice_index xs i) (slice_index ys i) unit (weighed e xs) (weighed f ys) (weighed e (drop i xs)) (weighed f (drop i ys))
    (weighed e (drop (suc i) xs)) (weighed f (drop (suc i) ys)) less (s.same e f h) (weighed_from e xs i) y small
  where
    go : (p q unit a b c d r t : ℕ) → q < p → a + d ≡ b + c → c ≡ p * unit + r → d ≡ q * unit + t → t < unit → b < a
    go p q unit a b c d r t less same x y small =
        let step : suc q ≤ p = less in
        omega (arith, same, x, y, small, mul-le-mul_left unit step)

-- what the first digits that differ tell
pub tells_at : (answer : Bool) (xs ys : List ℕ) (i : ℕ) → AreDigits xs → AreDigits ys → SameSoFar xs ys i →
    slice_index xs i ≢ slice_index ys i → (IsTrue answer ↔ (slice_index ys i < slice_index xs i)) → TellsHeavier answer xs ys
tells_at answer xs ys i dx dy s differ told e f h = (
  λ yes. less_by_digit e f xs ys i dy s h (told.0 yes),
  λ less. told.1 (elim (cases_lt (slice_index ys i) (slice_index xs i)) [
    | inl below ↦ below
    | inr above ↦ absurd (contrary (omega arith) less)
  ]),
)
  where
    swapped : SameSoFar ys xs i
    swapped = record { same = λ e f h. sym (s.same f e (sym h)) }

    contrary : slice_index xs i < slice_index ys i → weighed f ys < weighed e xs → ⊥
    contrary more less = omega (arith, less_by_digit f e ys xs i dx swapped (sym h) more)

-- where no digit differs, none is more
pub tells_none : (xs ys : List ℕ) (n : ℕ) → length xs ≤ n → length ys ≤ n → SameSoFar xs ys n → TellsHeavier false xs ys
tells_none xs ys n long_x long_y s e f h = (
  λ yes. cc,
  λ less. absurd (omega (arith, s.same e f h, ap (weighed e) (drop_all xs n long_x), ap (weighed f) (drop_all ys n long_y))),
)
  where
    drop_all : (zs : List ℕ) (k : ℕ) → length zs ≤ k → drop k zs ≡ []
    drop_all [] zero l = refl
    drop_all [] (suc k) l = refl
    drop_all (z ∷ zs) zero l = absurd (omega arith)
    drop_all (z ∷ zs) (suc k) l = drop_all zs k (omega arith)
