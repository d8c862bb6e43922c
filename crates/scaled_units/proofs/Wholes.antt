-- The whole part of a number, and which powers of a base it reaches.
use Rattle.std.proofs.Common.{◌≡◌, ℕ, ◌+◌, ◌-◌, ◌*◌, ◌^◌, ◌<◌, ◌≤◌, ◌⊎◌, inl, inr, length, min, pos, sym}
use Rattle.std.proofs.Common.{◌∙◌, ap, arith}
use Rattle.std.proofs.lemmas.List.{take-append-drop}
use Rattle.std.proofs.lemmas.List.Elements.{All-drop}
use Rattle.std.proofs.lemmas.Nat.{mul-le}
use Rattle.std.proofs.Math.Nat.{pow-le-pow_left, pow-le-pow_right, le_trans}
use Rattle.fixed_decimal.specs.Unsigned.{Unsigned, IsUnsigned, integer, fraction, integer_count}
use Rattle.fixed_decimal.specs.Size.{weighed, finest, size, ten_to}
use Rattle.fixed_decimal.proofs.Weights.{weighed-append, weighed_units, weighed_lt}
use Rattle.fixed_decimal.proofs.Rounds.{finest_large}
use Rattle.scaled_units.specs.declared.scale.Base.{Base}
use Rattle.scaled_units.specs.declared.scale.Base.TheVariants.{Thousand, Binary}
use Rattle.scaled_units.specs.Scales.{base_value}
use Rattle.scaled_units.specs.Shown.{IsPowerOf}
use Rattle.scaled_units.proofs.Products.{fraction_length}

-- a number lies between its whole part and one more
pub whole_size : (d : Unsigned) → IsUnsigned d →
    (weighed 0 (integer d) * ten_to (pos 0) ≤ size d) × (size d < (weighed 0 (integer d) + 1) * ten_to (pos 0))
whole_size d is =
    let e = finest - d.scale in
    let split : size d ≡ weighed (e + length (fraction d)) (integer d) + weighed e (fraction d) =
    ap (weighed e) (sym (take-append-drop (integer_count d) d.digits)) ∙ weighed-append e (integer d) (fraction d) in
    let place : e + length (fraction d) ≡ finest + 0 = omega (arith, fraction_length d is.integer_some, finest_large, is.low_limit) in
    let front : weighed (e + length (fraction d)) (integer d) ≡ weighed 0 (integer d) * 10 ^ (finest + 0) =
    ap (λ n. weighed n (integer d)) place ∙ weighed_units (finest + 0) (integer d) in
    let back : weighed e (fraction d) < 10 ^ (finest + 0) =
    rw place at (weighed_lt e (fraction d) (All-drop (λ x. x < 10) (integer_count d) d.digits is.below_ten)) in
    (omega (arith, split, front), omega (arith, split, front, back))

-- what the whole part reaches, the number reaches
pub reached_by : (d : Unsigned) (b l : ℕ) → IsUnsigned d → b ≤ min (weighed 0 (integer d)) l → b * ten_to (pos 0) ≤ size d
reached_by d b l is h =
    le_trans (mul-le b (ten_to (pos 0)) (weighed 0 (integer d)) (ten_to (pos 0)) (omega arith) (omega arith)) (whole_size d is).0

-- a number is below what its whole part is below
pub below_by : (d : Unsigned) (b l : ℕ) → IsUnsigned d → b ≤ l → min (weighed 0 (integer d)) l < b → size d < b * ten_to (pos 0)
below_by d b l is large h =
    let more : (weighed 0 (integer d) + 1) * ten_to (pos 0) ≤ b * ten_to (pos 0) =
    mul-le (weighed 0 (integer d) + 1) (ten_to (pos 0)) b (ten_to (pos 0)) (omega arith) (omega arith) in
    omega (arith, (whole_size d is).1, more)

-- bases are small
pub base_small : (b : Base) → base_value b ≤ 1024
base_small Thousand = omega arith
base_small Binary = omega arith

-- powers up to that after the last letter are below 10^28
pub power_large : (b : Base) (k : ℕ) → k ≤ 9 → base_value b ^ k ≤ 10000000000000000000000000000
power_large b k h =
    let up : base_value b ^ k ≤ 1024 ^ k = pow-le-pow_left (base_small b) k in
    let more : 1024 ^ k ≤ 1024 ^ 9 = pow-le-pow_right (omega arith) h in
    omega (arith, up, more)

-- the power of a whole part is that of the number
pub power_of_whole : (d : Unsigned) (b : Base) (k w : ℕ) → IsUnsigned d → w ≡ min (weighed 0 (integer d)) 10000000000000000000000000000 → k ≤ 8 →
    (k ≡ 0) ⊎ (base_value b ^ k ≤ w) → (k ≡ 8) ⊎ (w < base_value b ^ (k + 1)) → IsPowerOf b (size d) k
power_of_whole d b k w is e within reached greatest = record {
  within = within;
  reached = lower reached;
  greatest = upper greatest;
}
  where
    lower : (k ≡ 0) ⊎ (base_value b ^ k ≤ w) → (k ≡ 0) ⊎ (base_value b ^ k * ten_to (pos 0) ≤ size d)
    lower (inl none) = inl none
    lower (inr h) = inr (reached_by d (base_value b ^ k) 10000000000000000000000000000 is (omega arith))

    upper : (k ≡ 8) ⊎ (w < base_value b ^ (k + 1)) → (k ≡ 8) ⊎ (size d < base_value b ^ (k + 1) * ten_to (pos 0))
    upper (inl last) = inl last
    upper (inr h) = inr (below_by d (base_value b ^ (k + 1)) 10000000000000000000000000000 is (power_large b (k + 1) (omega arith)) (omega arith))
