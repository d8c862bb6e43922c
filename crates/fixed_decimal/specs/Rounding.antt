-- Rounding to a multiple of a power of ten, half to even (ICU4X `round_with_mode`, `HalfEven`).
use Rattle.std.specs.Prelude.{◌≡◌, ℕ, ◌+◌, ◌*◌, ◌<◌, ◌≤◌, ◌⊎◌, ℤ, pos, negsuc, ◌-ℤ◌}
use Rattle.std.specs.Int.{int_min, int_max}
use Rattle.fixed_decimal.specs.Unsigned.{Unsigned, low, high}
use Rattle.fixed_decimal.specs.Size.{size, ten_to, magnitude}
use Rattle.fixed_decimal.specs.Nearest.{IsNearest, IsMultiple}

-- how many digits stand below power 0 in a decimal rounded at a power
abbrev pub scale_at : ℤ → ℕ
scale_at (pos n) = 0
scale_at (negsuc n) = n + 1

-- how many zeros stand below the power, at power 0 and above, in a decimal rounded at a power
abbrev pub zeros_at : ℤ → ℕ
zeros_at (pos n) = n
zeros_at (negsuc n) = 0

-- y is nearest to x among the multiples of ten to the power, the even one of two equally near
abbrev pub IsNearestMultiple : ℤ → ℕ → ℕ → Type 0
IsNearestMultiple power x y = IsNearest (IsMultiple (ten_to power)) (ten_to power) x y

-- The decimal y is d rounded at a power. The lowest power of y is the lower of that power and 0; the highest is the greatest
-- of the highest power of d, the power below the one of rounding, and the magnitude of y.
pub record IsRounded (d : Unsigned) (power : ℤ) (y : Unsigned) : Type 0 where
  pub nearest : IsNearestMultiple power (size d) (size y)
  pub low_is : low y ≡ int_min power (pos 0)
  pub high_is : high y ≡ int_max (int_max (high d) (power -ℤ pos 1)) (magnitude (size y))

-- d rounded at a power is at least ten to the power 32768
abbrev pub RoundsPastLimits : Unsigned → ℤ → Type 0
RoundsPastLimits d power = (y : ℕ) × IsNearestMultiple power (size d) y × (ten_to (pos 32768) ≤ y)

-- beside q units the rest is more than half a unit, or just half a unit where q is odd
abbrev pub RoundsUp : ℕ → ℕ → ℕ → Type 0
RoundsUp unit q rest = (unit < 2 * rest) ⊎ ((2 * rest ≡ unit) × ((j : ℕ) × (q + 1 ≡ 2 * j)))

-- beside q units the rest is less than half a unit, or just half a unit where q is even
abbrev pub RoundsDown : ℕ → ℕ → ℕ → Type 0
RoundsDown unit q rest = (2 * rest < unit) ⊎ ((2 * rest ≡ unit) × ((j : ℕ) × (q ≡ 2 * j)))
