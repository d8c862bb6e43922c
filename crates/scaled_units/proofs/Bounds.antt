-- No rounded quotient is past the limits: it is at most a lower power of ten, which is a multiple of its unit.
use Rattle.std.proofs.Common.{◌≡◌, ℕ, zero, suc, ◌+◌, ◌-◌, ◌*◌, ◌^◌, ◌<◌, ◌≤◌, ◌⊎◌, inl, inr, pos, ◌∙◌, ap, arith}
use Rattle.std.proofs.Math.Nat.{pow-suc, pow-zero, one-le-pow}
use Rattle.std.proofs.lemmas.Nat.{mul-le}
use Rattle.fixed_decimal.specs.declared.modes.UnsignedRoundingMode.{UnsignedRoundingMode}
use Rattle.fixed_decimal.specs.Unsigned.{Unsigned, IsUnsigned, integer_count}
use Rattle.fixed_decimal.specs.Size.{finest, size, ten_to}
use Rattle.fixed_decimal.specs.Nearest.{IsMultiple}
use Rattle.fixed_decimal.specs.RoundedBy.{SizeRoundsPastLimits}
use Rattle.fixed_decimal.proofs.Taken.{taken_between}
use Rattle.fixed_decimal.proofs.MagnitudePlaces.{ten_multiple}
use Rattle.fixed_decimal.proofs.Magnitudes.{size_lt}
use Rattle.fixed_decimal.proofs.Weights.{ten_more, ten_mono, ten_pos, same_power}
use Rattle.scaled_units.specs.declared.scale.Base.{Base}
use Rattle.scaled_units.specs.declared.scale.Base.TheVariants.{Thousand, Binary}
use Rattle.scaled_units.specs.Scales.{base_value}
use Rattle.scaled_units.specs.Shown.{IsPowerOf, fraction_shown, unit_shown}
use Rattle.scaled_units.proofs.Wholes.{base_small}
use Rattle.scaled_units.proofs.Quotients.{base_some}

-- bases are at least ten
base_ten : (b : Base) → 10 ≤ base_value b
base_ten Thousand = omega arith
base_ten Binary = omega arith

-- a quotient is at most ten to the power 32767
quotient_small : (b : Base) (k q x : ℕ) → IsPowerOf b x k → q * base_value b ^ k ≡ x → x < 10 ^ (finest + 32768) → q ≤ 10 ^ (finest + 32767)
quotient_small b zero q x is e within =
    let one : base_value b ^ 0 ≡ 1 = pow-zero (base_value b) in
    let same : q * 1 ≡ x = rw one at e in
    let first : base_value b ^ (0 + 1) ≡ base_value b = first_power (base_value b) in
    let most : base_value b * 10 ^ (finest + 0) ≤ 10 ^ 4 * 10 ^ (finest + 0) =
    mul-le (base_value b) (10 ^ (finest + 0)) (10 ^ 4) (10 ^ (finest + 0)) (omega (arith, base_small b)) (omega arith) in
    let up : 10 ^ 4 * 10 ^ (finest + 0) ≤ 10 ^ (finest + 32767) = four (finest + 0) (finest + 32767) (omega arith) in
    below is.greatest first (omega arith) (omega arith)
  where
    first_power : (b : ℕ) → b ^ (0 + 1) ≡ b
    first_power b = pow-suc b 0 ∙ ap (λ n. n * b) (pow-zero b) ∙ omega arith

    four : (m n : ℕ) → m + 4 ≤ n → 10 ^ 4 * 10 ^ m ≤ 10 ^ n
    four m n h =
        let a : 10 ^ (m + 4) ≡ 10 * 10 ^ (m + 3) = same_power (m + 4) (m + 3 + 1) (omega arith) ∙ ten_more (m + 3) in
        let b : 10 ^ (m + 3) ≡ 10 * 10 ^ (m + 2) = same_power (m + 3) (m + 2 + 1) (omega arith) ∙ ten_more (m + 2) in
        let c : 10 ^ (m + 2) ≡ 10 * 10 ^ (m + 1) = same_power (m + 2) (m + 1 + 1) (omega arith) ∙ ten_more (m + 1) in
        omega (arith, ten_mono (m + 4) n h, a, b, c, ten_more m)

    below : ◌≡◌ {A = ℕ} 0 8 ⊎ (x < base_value b ^ (0 + 1) * ten_to (pos 0)) → base_value b ^ (0 + 1) ≡ base_value b → q ≤ x →
        base_value b * 10 ^ (finest + 0) ≤ 10 ^ (finest + 32767) → q ≤ 10 ^ (finest + 32767)
    below (inl h) first le most = absurd (omega arith)
    below (inr h) first le most = let h' : x < base_value b * ten_to (pos 0) = rw first at h in omega arith
quotient_small b (suc j) q x is e within =
    let one : 1 ≤ base_value b ^ j = one-le-pow j (base_value b) (base_some b) in
    let ten : 1 * 10 ≤ base_value b ^ j * base_value b = mul-le 1 10 (base_value b ^ j) (base_value b) one (base_ten b) in
    let less : q * 10 ≤ q * base_value b ^ suc j = mul-le q 10 q (base_value b ^ suc j) (omega arith) (rw (pow-suc) ten) in
    let more : 10 ^ (finest + 32768) ≡ 10 * 10 ^ (finest + 32767) =
    same_power (finest + 32768) (finest + 32767 + 1) (omega arith) ∙ ten_more (finest + 32767) in
    omega (arith, e, less, more)

-- no rounded quotient is past the limits
pub never_past : (d : Unsigned) (b : Base) (k q : ℕ) (mode : UnsignedRoundingMode) (quotient : Unsigned) → IsUnsigned d → IsPowerOf b (size d) k →
    size quotient ≡ q → q * base_value b ^ k ≡ size d → ¬ (SizeRoundsPastLimits mode (unit_shown k q) quotient)
never_past d b k q mode quotient valid is same e (y, taken, past) =
    let within : size d < 10 ^ (finest + 32768) =
    omega (arith, size_lt d valid, ten_mono (finest + integer_count d) (finest + 32768) (omega (arith, valid.high_limit))) in
    let small = quotient_small b k q (size d) is e within in
    let allowed : IsMultiple (unit_shown k q) (10 ^ (finest + 32767)) =
    ten_multiple (finest - fraction_shown k q) (finest + 32767) (omega arith) in
    let least = taken.upper.least (10 ^ (finest + 32767)) allowed (omega (arith, same, small)) in
    let high = (taken_between (IsMultiple (unit_shown k q)) mode (unit_shown k q) (size quotient) y taken).1 in
    let more : 10 ^ (finest + 32768) ≡ 10 * 10 ^ (finest + 32767) =
    same_power (finest + 32768) (finest + 32767 + 1) (omega arith) ∙ ten_more (finest + 32767) in
    omega (arith, least, high, past, more, ten_pos (finest + 32767))
