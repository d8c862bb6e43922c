-- Decimals multiplied by a power of ten (ICU4X `multiplied_pow10`).
use Rattle.std.specs.Prelude.{◌≡◌, ℕ, ◌*◌, ◌^◌, ◌⊎◌, ℤ, pos, negsuc, ◌+ℤ◌, ◌<ℤ◌}
use Rattle.std.specs.Int.{int_min, int_max}
use Rattle.fixed_decimal.specs.Unsigned.{Unsigned, digit_at, high, low}
use Rattle.fixed_decimal.specs.Rounding.{scale_at, zeros_at}

-- y has each digit of d, and d's range, k powers higher; the range is then widened to include 0
pub record IsMoved (d : Unsigned) (k : ℤ) (y : Unsigned) : Type 0 where
  pub digits_are : (p : ℤ) → digit_at y (p +ℤ k) ≡ digit_at d p
  pub high_is : high y ≡ int_max (pos 0) (high d +ℤ k)
  pub low_is : low y ≡ int_min (pos 0) (low d +ℤ k)

-- the size y is x times ten to the power k; where k is below 0, the power of ten stands on the side of y
abbrev pub IsTimesTenTo : ℤ → ℕ → ℕ → Type 0
IsTimesTenTo k x y = y * 10 ^ scale_at k ≡ x * 10 ^ zeros_at k

-- moving by k needs a power outside -32768 to 32767
abbrev pub MovesPastLimits : Unsigned → ℤ → Type 0
MovesPastLimits d k = (pos 32767 <ℤ (high d +ℤ k)) ⊎ ((low d +ℤ k) <ℤ negsuc 32767)
