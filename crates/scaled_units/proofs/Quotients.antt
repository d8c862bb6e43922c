-- A number over a power of a base: its product with the cofactor's power, the point moved.
use Rattle.std.proofs.Common.{◌≡◌, ℕ, zero, suc, ◌+◌, ◌*◌, ◌^◌, ◌<◌, ◌≤◌, inl, inr, pos, negsuc, ℤ, ◌-ℤ◌, sym}
use Rattle.std.proofs.Common.{◌∙◌, ap, arith, mul_assoc}
use Rattle.std.proofs.lemmas.Int.{ints}
use Rattle.std.proofs.lemmas.Nat.{mul-le, mul-pow, pow-add}
use Rattle.std.proofs.Math.Nat.{pow-suc, pow-zero, one-le-pow}
use Rattle.fixed_decimal.specs.Unsigned.{Unsigned, IsUnsigned, integer_count}
use Rattle.fixed_decimal.specs.Size.{size, finest, ten_to}
use Rattle.fixed_decimal.specs.Scaling.{IsTimesTenTo, MovesPastLimits}
use Rattle.fixed_decimal.proofs.Magnitudes.{size_lt}
use Rattle.fixed_decimal.proofs.Weights.{ten_mono, same_power}
use Rattle.scaled_units.specs.declared.scale.Base.{Base}
use Rattle.scaled_units.specs.declared.scale.Base.TheVariants.{Thousand, Binary}
use Rattle.scaled_units.specs.Scales.{base_value, cofactor, places}

-- divided by ten to an exponent
pub times_down : (k : ℤ) (e x y : ℕ) → k ≡ pos 0 -ℤ pos e → IsTimesTenTo k x y → y * 10 ^ e ≡ x
times_down (pos n) e x y same times =
    let none : e ≡ 0 = omega (arith, ints) in
    let n_is : n ≡ 0 = omega (arith, ints) in
    let one : 10 ^ e ≡ 1 = ap (λ p. 10 ^ p) none in
    let one' : 10 ^ n ≡ 1 = ap (λ p. 10 ^ p) n_is in
    let whole : y * 1 ≡ x * 1 = rw one' at times in
    rw one (omega (arith, whole))
times_down (negsuc n) e x y same times =
    let n_is : e ≡ n + 1 = omega (arith, ints) in
    rw n_is (omega (arith, times))

-- ten to a product is a power of a power
ten_power : (a k : ℕ) → (10 ^ a) ^ k ≡ 10 ^ (a * k)
ten_power a zero = rw (pow-zero (10 ^ a)) (same_power 0 (a * 0) (omega arith))
ten_power a (suc k) =
    pow-suc (10 ^ a) k ∙ ap (λ n. n * 10 ^ a) (ten_power a k) ∙ sym (pow-add 10 (a * k) a) ∙ same_power (a * k + a) (a * suc k) (omega arith)

-- a base times its cofactor is ten to its places
cofactor_is : (b : Base) → cofactor b * base_value b ≡ 10 ^ places b
cofactor_is Thousand = omega arith
cofactor_is Binary = omega arith

-- the quotient, times the power of the base, is the number
pub quotient_is : (b : Base) (p q y x : ℕ) → y * 10 ^ (places b * p) ≡ x → q ≡ y * cofactor b ^ p → q * base_value b ^ p ≡ x
quotient_is b p q y x moved product =
    ap (λ n. n * base_value b ^ p) product ∙ mul_assoc y (cofactor b ^ p) (base_value b ^ p)
    ∙ ap (λ n. y * n) (sym (mul-pow (cofactor b) (base_value b) p) ∙ ap (λ n. n ^ p) (cofactor_is b) ∙ ten_power (places b) p)
    ∙ moved

-- a base isn't zero
pub base_some : (b : Base) → 0 < base_value b
base_some Thousand = omega arith
base_some Binary = omega arith

-- a quotient isn't greater than the number
pub quotient_le : (b : Base) (p q x : ℕ) → q * base_value b ^ p ≡ x → q ≤ x
quotient_le b p q x e =
    let one : 1 ≤ base_value b ^ p = one-le-pow p (base_value b) (base_some b) in
    omega (arith, e, mul-le q 1 q (base_value b ^ p) (omega arith) one)

-- no quotient of a decimal is past the limits at the front
pub quotient_within : (d : Unsigned) (b : Base) (p q : ℕ) → IsUnsigned d → q * base_value b ^ p ≡ size d → ¬ (ten_to (pos 32768) ≤ q)
quotient_within d b p q is e past =
    let within : integer_count d ≤ 32768 = omega (arith, is.high_limit) in
    omega (arith, size_lt d is, quotient_le b p q (size d) e, ten_mono (finest + integer_count d) (finest + 32768) (omega arith))

-- moving the point down is past the limits only at the end
pub moves_past : (d : Unsigned) (k : ℤ) (m : ℕ) → IsUnsigned d → k ≡ pos 0 -ℤ pos m → MovesPastLimits d k → 32768 < d.scale + m
moves_past d k m is e (inl h) = absurd (omega (arith, ints, is.high_limit, is.integer_some))
moves_past d k m is e (inr h) = omega (arith, ints)
