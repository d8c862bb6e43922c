-- Significands: a rounded decimal is its significand times ten to an exponent.
use Rattle.std.specs.Prelude.{◌≡◌, ℕ, ◌*◌, ◌^◌, ℤ, pos, ◌-ℤ◌}
use Rattle.std.specs.Int.{int_max}
use Rattle.fixed_decimal.specs.Unsigned.{Unsigned, high}
use Rattle.fixed_decimal.specs.Size.{size, magnitude}
use Rattle.fixed_decimal.specs.Rounding.{IsNearestMultiple}
use Rattle.fixed_decimal.specs.Trimming.{IsTrimmed}

-- s times ten to the exponent is d rounded at a power. The highest power of s is that of the rounded decimal, as in `IsRounded`,
-- less the exponent; s has no zero at its end below power 0.
pub record IsRoundedSignificand (d : Unsigned) (power : ℤ) (exponent : ℕ) (s : Unsigned) : Type 0 where
  pub nearest : IsNearestMultiple power (size d) (size s * 10 ^ exponent)
  pub high_is : high s ≡ int_max (int_max (high d) (power -ℤ pos 1)) (magnitude (size s * 10 ^ exponent)) -ℤ pos exponent
  pub trimmed : IsTrimmed s
