-- The number that digits write, and how it splits.
use Rattle.std.proofs.Common.{◌≡◌, ℕ, suc, zero, ◌+◌, ◌-◌, ◌*◌, ◌^◌, ◌<◌, ◌≤◌, List, [], ◌∷◌, ◌++◌, length}
use Rattle.std.proofs.Common.{replicate, refl, sym, ◌∙◌, ap, arith, zero-add, add-zero, length-append, All}
use Rattle.std.proofs.Math.Nat.{mul-le-mul_left}
use Rattle.std.proofs.lemmas.Nat.{pow-add}
use Rattle.std.proofs.lemmas.Grind.{pow_more}
use Rattle.std.proofs.lemmas.List.{length-replicate}
use Rattle.std.proofs.lemmas.List.Elements.{All-head, All-tail, All-nil, All-cons}
use Rattle.fixed_decimal.specs.Unsigned.{AreDigits}
use Rattle.fixed_decimal.specs.Size.{weighed}

-- one power more is ten times as much
pub ten_more : (e : ℕ) → 10 ^ (e + 1) ≡ 10 * 10 ^ e
ten_more e = omega (arith, pow_more 10 e)

-- a power of ten isn't zero
pub ten_pos : (e : ℕ) → 0 < 10 ^ e
ten_pos zero = omega arith
ten_pos (suc e) = omega (arith, ten_pos e)

-- powers of ten grow
pub ten_mono : (i j : ℕ) → i ≤ j → 10 ^ i ≤ 10 ^ j
ten_mono i j h =
    let split : 10 ^ j ≡ 10 ^ i * 10 ^ (j - i) = ap (λ n. 10 ^ n) same ∙ pow-add 10 i (j - i) in
    let one : 1 ≤ 10 ^ (j - i) = ten_pos (j - i) in
    omega (arith, split, mul-le-mul_left (10 ^ i) one)
  where
    same : j ≡ i + (j - i)
    same = omega arith

-- digits without the first are digits
pub AreDigits-tail : (x : ℕ) (xs : List ℕ) → AreDigits (x ∷ xs) → AreDigits xs
AreDigits-tail x xs h = All-tail (λ d. d < 10) x xs h

-- the first digit is below ten
pub AreDigits-head : (x : ℕ) (xs : List ℕ) → AreDigits (x ∷ xs) → x < 10
AreDigits-head x xs h = All-head (λ d. d < 10) x xs h

-- the weight of two lists joined: the first list stands above the second
pub weighed-append : (e : ℕ) (xs ys : List ℕ) → weighed e (xs ++ ys) ≡ weighed (e + length ys) xs + weighed e ys
weighed-append e [] ys = sym (zero-add _)
weighed-append e (x ∷ xs) ys =
    let same : e + length (xs ++ ys) ≡ e + length ys + length xs = omega (arith, length-append xs ys) in
    rw (same, weighed-append e xs ys) (omega arith)

-- digits weigh less than the next power
pub weighed_lt : (e : ℕ) (ds : List ℕ) → AreDigits ds → weighed e ds < 10 ^ (e + length ds)
weighed_lt e [] h = omega (arith, ten_pos (e + 0))
weighed_lt e (x ∷ xs) h =
    let rest = weighed_lt e xs (AreDigits-tail x xs h) in
    let small : suc x ≤ 10 = AreDigits-head x xs h in
    let more : 10 ^ (e + suc (length xs)) ≡ 10 * 10 ^ (e + length xs) =
    ap (λ n. 10 ^ n) (omega arith) ∙ ten_more (e + length xs) in
    omega (arith, more, mul-le-mul_left (10 ^ (e + length xs)) small)

-- digits k places higher weigh ten to k times as much
pub weighed_times : (e k : ℕ) (ds : List ℕ) → weighed (e + k) ds ≡ weighed e ds * 10 ^ k
weighed_times e k [] = omega arith
weighed_times e k (x ∷ xs) =
    let same : e + k + length xs ≡ (e + length xs) + k = omega arith in
    rw (same, weighed_times e k xs, pow-add 10 (e + length xs) k) (omega arith)

-- equal exponents give equal powers of ten
pub same_power : (i j : ℕ) → i ≡ j → 10 ^ i ≡ 10 ^ j
same_power i j e = ap (λ n. 10 ^ n) e

-- the weight as a multiple of the power at the last digit's place
pub weighed_units : (e : ℕ) (ds : List ℕ) → weighed e ds ≡ weighed 0 ds * 10 ^ e
weighed_units e ds = ap (λ n. weighed n ds) (sym (zero-add e)) ∙ weighed_times 0 e ds

-- zeros weigh nothing
pub weighed-replicate_zero : (e n : ℕ) → weighed e (replicate n 0) ≡ 0
weighed-replicate_zero e zero = refl
weighed-replicate_zero e (suc n) = omega (arith, weighed-replicate_zero e n)

-- n nines and one at the place of the last make the next power of ten
pub weighed-replicate_nine : (e n : ℕ) → weighed e (replicate n 9) + 10 ^ e ≡ 10 ^ (e + n)
weighed-replicate_nine e zero = rw (add-zero) (zero-add (10 ^ e))
weighed-replicate_nine e (suc n) =
    let more : 10 ^ (e + suc n) ≡ 10 * 10 ^ (e + n) = ap (λ k. 10 ^ k) (omega arith) ∙ ten_more (e + n) in
    rw (length-replicate {A = ℕ} n 9) (omega (arith, more, weighed-replicate_nine e n))

-- digits that begin below five weigh less than half of the next power
pub low_below : (e d : ℕ) (ds : List ℕ) → AreDigits (d ∷ ds) → d < 5 → 2 * weighed e (d ∷ ds) < 10 ^ (e + length (d ∷ ds))
low_below e d ds h s =
    let more : 10 ^ (e + suc (length ds)) ≡ 10 * 10 ^ (e + length ds) = ap (λ k. 10 ^ k) (omega arith) ∙ ten_more (e + length ds) in
    let five : suc d ≤ 5 = s in
    omega (arith, more, weighed_lt e ds (AreDigits-tail d ds h), mul-le-mul_left (10 ^ (e + length ds)) five)

-- digits that begin above five weigh more than half of the next power
pub low_above : (e d : ℕ) (ds : List ℕ) → 5 < d → 10 ^ (e + length (d ∷ ds)) < 2 * weighed e (d ∷ ds)
low_above e d ds s =
    let more : 10 ^ (e + suc (length ds)) ≡ 10 * 10 ^ (e + length ds) = ap (λ k. 10 ^ k) (omega arith) ∙ ten_more (e + length ds) in
    let six : 6 ≤ d = s in
    omega (arith, more, ten_pos (e + length ds), mul-le-mul_left (10 ^ (e + length ds)) six)

-- digits that begin with five weigh half of the next power and what the rest weighs
pub low_five : (e : ℕ) (ds : List ℕ) → 2 * weighed e (5 ∷ ds) ≡ 10 ^ (e + length (5 ∷ ds)) + 2 * weighed e ds
low_five e ds =
    let more : 10 ^ (e + suc (length ds)) ≡ 10 * 10 ^ (e + length ds) = ap (λ k. 10 ^ k) (omega arith) ∙ ten_more (e + length ds) in
    omega (arith, more)

-- digits that are all 0 weigh nothing
pub weighed_none : (e : ℕ) (ds : List ℕ) → All (λ d. d ≡ 0) ds → weighed e ds ≡ 0
weighed_none e [] h = refl
weighed_none e (d ∷ ds) h =
    let first : d ≡ 0 = All-head (λ x. x ≡ 0) d ds h in
    rw (first, weighed_none e ds (All-tail (λ x. x ≡ 0) d ds h)) (omega arith)

-- digits that weigh nothing are zeros
pub none_weighed : (e : ℕ) (ds : List ℕ) → weighed e ds ≡ 0 → All (λ d. d ≡ 0) ds
none_weighed e [] h = All-nil (λ d. d ≡ 0)
none_weighed e (d ∷ ds) h =
    All-cons (λ x. x ≡ 0) d ds
    (zero_factor d (e + length ds) (omega arith))
    (none_weighed e ds (omega arith))
  where
    zero_factor : (a k : ℕ) → a * 10 ^ k ≡ 0 → a ≡ 0
    zero_factor zero k z = refl
    zero_factor (suc a) k z = absurd (omega (arith, ten_pos k))

-- digits weigh at least what the first one does
pub first_weighed : (e d : ℕ) (ds : List ℕ) → d * 10 ^ (e + length ds) ≤ weighed e (d ∷ ds)
first_weighed e d ds = omega arith
