-- No compact number stands between the two values around a size that are shown at its magnitude: both are within the powers of ten of that
-- magnitude, so whatever stands between them has it too, and is a multiple of the same unit.
use Rattle.std.proofs.Common.{◌≡◌, ℕ, ◌+◌, ◌-◌, ◌*◌, ◌/◌, ◌%◌, ◌^◌, ◌<◌, ◌≤◌, inl, inr, subst, arith}
use Rattle.std.proofs.Math.Nat.{mul-le-mul_left}
use Rattle.std.proofs.lemmas.Nat.{pow-add}
use Rattle.std.proofs.lemmas.Bool.{cases_lt}
use Rattle.std.proofs.lemmas.Bool.Decides.{nat_tests}
use Rattle.fixed_decimal.specs.Nearest.{IsMultiple}
use Rattle.fixed_decimal.specs.Size.{magnitude_place}
use Rattle.fixed_decimal.proofs.MagnitudePlaces.{magnitude_place_high, magnitude_place_is, magnitude_place_low}
use Rattle.fixed_decimal.proofs.Weights.{ten_pos}
use Rattle.icu_decimal_data.specs.CompactTable.{exponent_for}
use Rattle.icu_decimal.specs.CompactNumber.{rounding_place, rounding_place_for}
use Rattle.locnum_explain.specs.Showable.{NothingBetween}

-- a magnitude is rounded at its own place at most
place_most : (e m : ℕ) → rounding_place e m ≤ m
unfolding rounding_place
place_most e m = grind (arith, nat_tests)

-- what is less times a unit is less by one of them at least
one_less : (k q u : ℕ) → 0 < u → k * u < q * u → u * (k + 1) ≤ u * q
one_less k q u some h = elim (cases_lt k q) [
  | inl below ↦ mul-le-mul_left u (omega arith)
  | inr above ↦ absurd (omega (arith, mul-le-mul_left u above))
]

-- between two multiples of a unit, one unit apart, there is none
no_multiple : (q k u : ℕ) → 0 < u → q * u < k * u → ¬ (k * u < q * u + u)
no_multiple q k u some low high =
    let more = one_less q k u some low in
    absurd (omega arith)

-- a power of ten that a unit divides, and that is at most x, is at most the last multiple of the unit up to x
power_below : (p n x : ℕ) → 10 ^ (n + p) ≤ x → 10 ^ (n + p) ≤ x / 10 ^ p * 10 ^ p
power_below p n x h =
    let u : ℕ = 10 ^ p in
    let some : 0 < u = ten_pos p in
    let split : 10 ^ (n + p) ≡ 10 ^ n * u = pow-add 10 n p in
    elim (cases_lt (x / u) (10 ^ n)) [
      | inl below ↦
          let more = mul-le-mul_left u below in
          absurd (omega arith)
      | inr above ↦
          let more = mul-le-mul_left u above in
          omega arith
    ]

-- and one above x is above it by a unit at least
power_above : (p n x : ℕ) → x < 10 ^ (n + p) → x / 10 ^ p * 10 ^ p + 10 ^ p ≤ 10 ^ (n + p)
power_above p n x h =
    let u : ℕ = 10 ^ p in
    let some : 0 < u = ten_pos p in
    let split : 10 ^ (n + p) ≡ 10 ^ n * u = pow-add 10 n p in
    elim (cases_lt (x / u) (10 ^ n)) [
      | inl below ↦
          let more = mul-le-mul_left u below in
          omega arith
      | inr above ↦
          let more = mul-le-mul_left u above in
          absurd (omega arith)
    ]

-- the law
pub nothing_between : NothingBetween
nothing_between table x z some allowed low high =
    let m : ℕ = magnitude_place x in
    let p : ℕ = rounding_place_for table m in
    let u : ℕ = 10 ^ p in
    let most : p ≤ m = place_most (exponent_for table m) m in
    let positive : 0 < u = ten_pos p in
    let whole : x - x % u ≡ x / u * u = omega arith in
    let least : 10 ^ m ≤ x = magnitude_place_low x some in
    let next : x < 10 ^ (m + 1) = magnitude_place_high x some in
    let here : 10 ^ m ≤ x / u * u =
    subst (λ (k : ℕ). 10 ^ k ≤ x / u * u) (omega arith) (power_below p (m - p) x (subst (λ (k : ℕ). 10 ^ k ≤ x) (omega arith) least)) in
    let there : x / u * u + u ≤ 10 ^ (m + 1) =
    subst (λ (k : ℕ). x / u * u + u ≤ 10 ^ k) (omega arith) (power_above p (m + 1 - p) x (subst (λ (k : ℕ). x < 10 ^ k) (omega arith) next)) in
    let same : magnitude_place z ≡ m = magnitude_place_is z m (omega arith) (omega arith) in
    let multiple : IsMultiple u z = subst (λ (k : ℕ). IsMultiple (10 ^ rounding_place_for table k) z) same allowed in
    let k : ℕ = multiple.0 in
    let is : z ≡ k * u = multiple.1 in
    no_multiple (x / u) k u positive (omega arith) (omega arith)
