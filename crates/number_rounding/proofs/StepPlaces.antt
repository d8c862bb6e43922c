-- The place of a step, as the code computes it.
use Rattle.std.proofs.Common.{◌≡◌, ℕ, ◌+◌, ◌-◌, ◌*◌, ◌^◌, ◌<◌, ◌≤◌, inl, inr, refl, ◌∙◌, ap, arith, max, Some, None}
use Rattle.std.proofs.Common.{zero, suc, ◌↔◌, IsTrue}
use Rattle.std.proofs.Common.{ℤ, pos, negsuc, ◌+ℤ◌, ◌≤ℤ◌, ◌<ℤ◌}
use Rattle.std.specs.Int.Signed.{le_z, lt_z}
use Rattle.std.proofs.lemmas.Int.{ints}
use Rattle.std.proofs.lemmas.Bool.{cases_lt}
use Rattle.std.proofs.lemmas.Nat.{pow-add}
use Rattle.std.proofs.Math.Nat.{mul-le-mul_right}
use Rattle.fixed_decimal.specs.declared.increments.RoundingIncrement.TheVariants.{MultiplesOf1, MultiplesOf2, MultiplesOf5, MultiplesOf25}
use Rattle.fixed_decimal.specs.Size.{finest, place, ten_to}
use Rattle.fixed_decimal.specs.Increments.{step_of, unit_of}
use Rattle.fixed_decimal.specs.Nearest.{IsMultiple}
use Rattle.fixed_decimal.proofs.Weights.{ten_pos, ten_mono, ten_more}
use Rattle.skeleton_settings.specs.declared.settings.Precision.{Precision}
use Rattle.skeleton_settings.specs.declared.settings.Precision.TheVariants.{Fraction, Significant, Increment, Both, Currency}
use Rattle.skeleton_settings.specs.declared.settings.Priority.TheVariants.{Relaxed, Strict}
use Rattle.number_rounding.specs.Steps.{step, step_place, increment_of, DividesOne}
use Rattle.number_rounding.proofs.PlaceLemmas.{finest_is}
use Rattle.number_rounding.proofs.Units.{fraction_low, increment_pos}

-- what tests of signed numbers say
le_test : (a b : ℤ) → IsTrue (le_z a b) ↔ (a ≤ℤ b)
le_test a b = (λ t. grind (arith, ints), λ h. grind (arith, ints))

lt_test : (a b : ℤ) → IsTrue (lt_z a b) ↔ (a <ℤ b)
lt_test a b = (λ t. grind (arith, ints), λ h. grind (arith, ints))

-- a step is its increment times ten to its place
pub step_is : (precision : Precision) (k : ℕ) → step precision k ≡ step_of (increment_of precision) * 10 ^ step_place precision k
step_is (Fraction least most) k = omega arith
step_is (Significant least most) k = omega arith
step_is (Increment increment power least) k = refl
step_is (Currency is_cash) k = omega arith
step_is (Both least most few many priority keeps) k = omega arith

-- and the unit times ten to an exponent
pub unit_is : (precision : Precision) (k e : ℕ) →
    step precision k * 10 ^ e ≡ step_of (increment_of precision) * 10 ^ (step_place precision k + e)
unit_is precision k e =
    let split : 10 ^ (step_place precision k + e) ≡ 10 ^ step_place precision k * 10 ^ e = pow-add 10 (step_place precision k) e in
    rw (step_is precision k, split) (omega arith)

-- what divides a power of ten is no greater power of ten
divisor_low : (c p n : ℕ) → 1 ≤ c → IsMultiple (c * 10 ^ p) (10 ^ n) → p ≤ n
divisor_low c p n some (zero, e) = absurd (omega (arith, ten_pos n))
divisor_low c p n some (suc k, e) = elim (cases_lt n p) [
  | inr below ↦ below
  | inl above ↦
      let one : 1 ≤ suc k = omega arith in
      let times : 1 * (c * 10 ^ p) ≤ suc k * (c * 10 ^ p) = mul-le-mul_right (c * 10 ^ p) one in
      let unit : 1 * 10 ^ p ≤ c * 10 ^ p = mul-le-mul_right (10 ^ p) some in
      absurd (omega (arith, e, ten_more n, ten_pos n, ten_mono (n + 1) p (omega arith)))
]

-- where 1 is a multiple of the increment, no step is above power 0 and its own place
pub step_low : (precision : Precision) (k : ℕ) → DividesOne precision → step_place precision k ≤ max finest k
step_low (Fraction least most) k d = omega (arith, fraction_low most)
step_low (Significant least None) k d = omega arith
step_low (Significant least (Some most)) k d = omega arith
step_low (Increment increment power least) k d = omega (arith, divisor_low (step_of increment) (place power) (finest + 0) (increment_pos increment) d)
step_low (Currency is_cash) k d = omega (arith, fraction_low (Some 2))
step_low (Both least most few many Relaxed keeps) k d = omega (arith, fraction_low most)
step_low (Both least most few many Strict keeps) k d = omega (arith, fraction_low most)

-- a greater divisor stands lower: c is more than ten to v
divisor_lower : (c p n v : ℕ) → 10 ^ v < c → IsMultiple (c * 10 ^ p) (10 ^ n) → p + v < n
divisor_lower c p n v more (zero, e) = absurd (omega (arith, ten_pos n))
divisor_lower c p n v more (suc k, e) = elim (cases_lt (p + v) n) [
  | inl below ↦ below
  | inr above ↦
      let one : 1 ≤ suc k = omega arith in
      let times : 1 * (c * 10 ^ p) ≤ suc k * (c * 10 ^ p) = mul-le-mul_right (c * 10 ^ p) one in
      let next : suc (10 ^ v) ≤ c = more in
      let unit : suc (10 ^ v) * 10 ^ p ≤ c * 10 ^ p = mul-le-mul_right (10 ^ p) next in
      let both : 10 ^ (p + v) ≡ 10 ^ p * 10 ^ v = pow-add 10 p v in
      absurd (omega (arith, e, both, ten_pos p, ten_mono n (p + v) above))
]

-- an increment that divides ten to w divides each power of ten from there on
divisor_of : (c g w p n : ℕ) → 10 ^ w ≡ g * c → p + w ≤ n → IsMultiple (c * 10 ^ p) (10 ^ n)
divisor_of c g w p n e h =
    let split : 10 ^ n ≡ 10 ^ (n - (p + w)) * (10 ^ p * 10 ^ w) =
    ap (λ k. 10 ^ k) (let same : n ≡ n - (p + w) + (p + w) = omega arith in same) ∙ pow-add 10 (n - (p + w)) (p + w)
    ∙ ap (λ k. 10 ^ (n - (p + w)) * k) (pow-add 10 p w) in
    (10 ^ (n - (p + w)) * g, split ∙ ap (λ k. 10 ^ (n - (p + w)) * (10 ^ p * k)) e ∙ omega arith)

-- when 1 is a multiple of each increment at a power
pub one_divides : (power : ℤ) → pos (place power) ≡ power +ℤ pos 33024 → IsTrue (le_z power (pos 0)) ↔ IsMultiple (unit_of MultiplesOf1 power)
    (ten_to (pos 0))
one_divides power at = (
  λ test. divisor_of 1 1 0 (place power) (finest + 0) refl (omega (arith, ints, finest_is, (le_test power (pos 0)).0 test)),
  λ divides. (le_test power (pos 0)).1 (omega (arith, ints, finest_is, divisor_low 1 (place power) (finest + 0) (omega arith) divides)),
)

pub two_divides : (power : ℤ) → pos (place power) ≡ power +ℤ pos 33024 → IsTrue (lt_z power (pos 0)) ↔ IsMultiple (unit_of MultiplesOf2 power)
    (ten_to (pos 0))
two_divides power at = (
  λ test. divisor_of 2 5 1 (place power) (finest + 0) refl (omega (arith, ints, finest_is, (lt_test power (pos 0)).0 test)),
  λ divides. (lt_test power (pos 0)).1 (omega (arith, ints, finest_is, divisor_lower 2 (place power) (finest + 0) 0 (omega arith) divides)),
)

pub five_divides : (power : ℤ) → pos (place power) ≡ power +ℤ pos 33024 → IsTrue (lt_z power (pos 0)) ↔ IsMultiple (unit_of MultiplesOf5 power)
    (ten_to (pos 0))
five_divides power at = (
  λ test. divisor_of 5 2 1 (place power) (finest + 0) refl (omega (arith, ints, finest_is, (lt_test power (pos 0)).0 test)),
  λ divides. (lt_test power (pos 0)).1 (omega (arith, ints, finest_is, divisor_lower 5 (place power) (finest + 0) 0 (omega arith) divides)),
)

pub twenty_five_divides : (power : ℤ) → pos (place power) ≡ power +ℤ pos 33024 →
    IsTrue (lt_z power (negsuc 0)) ↔ IsMultiple (unit_of MultiplesOf25 power) (ten_to (pos 0))
twenty_five_divides power at = (
  λ test. divisor_of 25 4 2 (place power) (finest + 0) refl (omega (arith, ints, finest_is, (lt_test power (negsuc 0)).0 test)),
  λ divides. (lt_test power (negsuc 0)).1 (omega (arith, ints, finest_is, divisor_lower 25 (place power) (finest + 0) 1 (omega arith) divides)),
)
