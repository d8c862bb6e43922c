-- What is shown of a number by a scale (coreutils `numfmt --to`): its quotient by a power of the base, rounded once.
-- By `si` and up, 1001 is 1.001 * 1000^1, and shown as 1.1K; 999.2 is shown as 1.0K, since it is rounded to 1000. By `iec`,
-- 1000 has the power 0, and 10240 is 10K: from 10 on no fraction is shown.
use Rattle.std.specs.Prelude.{◌≡◌, ℕ, zero, suc, ◌+◌, ◌-◌, ◌*◌, ◌^◌, ◌<◌, ◌≤◌, ◌⊎◌, Bool, if◌then◌else◌}
use Rattle.std.specs.Prelude.{nat_lt, pos}
use Rattle.fixed_decimal.specs.declared.modes.UnsignedRoundingMode.{UnsignedRoundingMode}
use Rattle.fixed_decimal.specs.Unsigned.{Unsigned}
use Rattle.fixed_decimal.specs.Size.{finest, size, ten_to}
use Rattle.fixed_decimal.specs.Modes.{IsTaken}
use Rattle.fixed_decimal.specs.Nearest.{IsMultiple}
use Rattle.scaled_units.specs.declared.scale.Base.{Base}
use Rattle.scaled_units.specs.Scales.{base_value, places}
use Rattle.scaled_units.specs.Reading.{IsWritten}

-- the greatest power that has a letter
abbrev pub max_power : ℕ
max_power = 8

-- k is the greatest power with a letter to which the base is at most a size, and 0 below the base
pub record IsPowerOf (base : Base) (x k : ℕ) : Type 0 where
  pub within : k ≤ max_power
  pub reached : (k ≡ 0) ⊎ (base_value base ^ k * ten_to (pos 0) ≤ x)
  pub greatest : (k ≡ max_power) ⊎ (x < base_value base ^ (k + 1) * ten_to (pos 0))

-- how many digits a number with a power has below power 0: one if there is a letter and it is below ten, else none
abbrev pub digits_shown : ℕ → Bool → ℕ
digits_shown zero below_ten = 0
digits_shown (suc k) below_ten = if below_ten then 1 else 0

-- the same of a size
abbrev pub fraction_shown : ℕ → ℕ → ℕ
fraction_shown k x = digits_shown k (nat_lt x (10 * ten_to (pos 0)))

-- of what a quotient with a power is made a multiple: of a tenth if there is a letter and it is below ten, else of one
abbrev pub unit_shown : ℕ → ℕ → ℕ
unit_shown k q = 10 ^ (finest - fraction_shown k q)

-- what is shown of a rounded quotient with the power k: one of the next letter if it reaches the base, else itself
abbrev pub IsCarried : Base → ℕ → ℕ → ℕ → ℕ → Type 0
IsCarried base k rounded power y =
    ((k < max_power) × (base_value base * ten_to (pos 0) ≤ rounded) × (power ≡ k + 1) × (y ≡ ten_to (pos 0)))
    ⊎ (((k ≡ max_power) ⊎ (rounded < base_value base * ten_to (pos 0))) × (power ≡ k) × (y ≡ rounded))

-- y is the number that is shown of the size x, and the base to the power is its unit
pub record IsScaled (base : Base) (mode : UnsignedRoundingMode) (x : ℕ) (y : Unsigned) (power : ℕ) : Type 0 where
  pub k : ℕ
  pub power_is : IsPowerOf base x k
  pub quotient : ℕ
  pub exact : quotient * base_value base ^ k ≡ x
  pub rounded : ℕ
  pub taken : IsTaken (IsMultiple (unit_shown k quotient)) mode (unit_shown k quotient) quotient rounded
  pub carried : IsCarried base k rounded power (size y)
  pub written : IsWritten y (fraction_shown power (size y))

-- the exact quotient, with the number's digits below power 0 and those of the power's places, is written below power -32768
pub record IsScaledPastLimits (base : Base) (d : Unsigned) : Type 0 where
  pub k : ℕ
  pub power_is : IsPowerOf base (size d) k
  pub past : 32768 < d.scale + places base * k
