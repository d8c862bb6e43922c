-- The greatest power of ten that a size reaches: laws of the magnitude's place.
use Rattle.std.proofs.Common.{◌≡◌, ℕ, zero, suc, ◌+◌, ◌-◌, ◌*◌, ◌^◌, ◌<◌, ◌≤◌, nat_le, ⊎_elim, refl, arith, leb-true}
use Rattle.std.proofs.Common.{leb-false, ap, ◌∙◌}
use Rattle.std.proofs.Math.Nat.{mul-le-mul_right}
use Rattle.std.proofs.lemmas.Nat.{pow-add}
use Rattle.std.proofs.lemmas.Bool.{cases_Bool, cases_order, cases_lt}
use Rattle.fixed_decimal.specs.Size.{finest, place_up_to, magnitude_place}
use Rattle.fixed_decimal.specs.Nearest.{IsMultiple}
use Rattle.fixed_decimal.proofs.Weights.{ten_pos, ten_mono, ten_more}

-- ten to n is above n
pub ten_above : (n : ℕ) → n < 10 ^ n
ten_above zero = omega arith
ten_above (suc n) = let next : 10 ^ suc n ≡ 10 * 10 ^ n = ap (λ k. 10 ^ k) (omega arith) ∙ ten_more n in omega (arith, ten_above n)

place_low : (x top : ℕ) → 0 < x → 10 ^ place_up_to x top ≤ x
unfolding place_up_to
place_low x zero h = omega arith
place_low x (suc p) h =
    ⊎_elim (λ e. rw e (leb-true (10 ^ suc p) x e)) (λ e. rw e (place_low x p h)) (cases_Bool (nat_le (10 ^ suc p) x))

place_high : (x top : ℕ) → x < 10 ^ suc top → x < 10 ^ suc (place_up_to x top)
unfolding place_up_to
place_high x zero h = h
place_high x (suc p) h =
    ⊎_elim (λ e. rw e h) (λ e. rw e (place_high x p (leb-false (10 ^ suc p) x e))) (cases_Bool (nat_le (10 ^ suc p) x))

-- a size reaches ten to its magnitude
pub magnitude_place_low : (x : ℕ) → 0 < x → 10 ^ magnitude_place x ≤ x
unfolding magnitude_place
magnitude_place_low zero h = absurd (omega arith)
magnitude_place_low (suc n) h = place_low (suc n) (suc n) h

-- a size is below ten to the place above its magnitude
pub magnitude_place_high : (x : ℕ) → 0 < x → x < 10 ^ (magnitude_place x + 1)
unfolding magnitude_place
magnitude_place_high zero h = absurd (omega arith)
magnitude_place_high (suc n) h =
    let up = place_high (suc n) (suc n) (omega (arith, ten_above (suc n), ten_mono (suc n) (suc (suc n)) (omega arith))) in
    omega (arith, up, ap (λ k. 10 ^ k) (one_more (place_up_to (suc n) (suc n))))
  where
    one_more : (k : ℕ) → suc k ≡ k + 1
    one_more k = omega arith

-- a size between two neighbouring powers of ten has the magnitude of the lower one
pub magnitude_place_is : (x p : ℕ) → 10 ^ p ≤ x → x < 10 ^ (p + 1) → magnitude_place x ≡ p
magnitude_place_is x p low high =
    let positive : 0 < x = omega (arith, ten_pos p) in
    let l = magnitude_place_low x positive in
    let g = magnitude_place_high x positive in
    ⊎_elim (λ e. e)
    (⊎_elim (λ (below : magnitude_place x < p). absurd (omega (arith, ten_mono (magnitude_place x + 1) p (omega arith))))
    (λ (above : p < magnitude_place x). absurd (omega (arith, ten_mono (p + 1) (magnitude_place x) (omega arith)))))
    (cases_order (magnitude_place x) p)

-- the magnitude of a power of ten
pub magnitude_place-ten : (p : ℕ) → magnitude_place (10 ^ p) ≡ p
magnitude_place-ten p = magnitude_place_is (10 ^ p) p (omega arith) (omega (arith, ten_more p, ten_pos p))

-- the magnitude of zero
pub magnitude_place-zero : magnitude_place 0 ≡ finest
unfolding magnitude_place
magnitude_place-zero = refl

-- a size times a power of ten
pub magnitude_place_times : (n e : ℕ) → 0 < n → magnitude_place (n * 10 ^ e) ≡ magnitude_place n + e
magnitude_place_times n e some =
    let next : 10 ^ (magnitude_place n + e + 1) ≡ 10 ^ (magnitude_place n + 1) * 10 ^ e = ap (λ k. 10 ^ k) (omega arith)
    ∙ pow-add 10 (magnitude_place n + 1) e in
    let low = mul-le-mul_right (10 ^ e) (magnitude_place_low n some) in
    let above : suc n ≤ 10 ^ (magnitude_place n + 1) = magnitude_place_high n some in
    let high = mul-le-mul_right (10 ^ e) above in
    magnitude_place_is (n * 10 ^ e) (magnitude_place n + e) (omega (arith, low, pow-add 10 (magnitude_place n) e)) (omega (arith, high, next, ten_pos e))

-- a power of ten is a multiple of each lower one
pub ten_multiple : (p q : ℕ) → p ≤ q → IsMultiple (10 ^ p) (10 ^ q)
ten_multiple p q h =
    let split : q ≡ q - p + p = omega arith in
    (10 ^ (q - p), ap (λ n. 10 ^ n) split ∙ pow-add 10 (q - p) p)

-- a greater size has no lower magnitude
pub magnitude_place_monotone : (x y : ℕ) → 0 < x → x ≤ y → magnitude_place x ≤ magnitude_place y
magnitude_place_monotone x y some h =
    let low = magnitude_place_low x some in
    let high = magnitude_place_high y (omega arith) in
    ⊎_elim (λ (above : magnitude_place y < magnitude_place x). absurd (omega (arith, ten_mono (magnitude_place y + 1) (magnitude_place x) (omega arith))))
    (λ not_above. not_above)
    (cases_lt (magnitude_place y) (magnitude_place x))
