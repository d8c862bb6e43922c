-- Which two decimals are the ends of a range.
use Rattle.std.specs.Prelude.{ℤ, pos, ◌-ℤ◌, ◌<ℤ◌, if◌then◌else◌}
use Rattle.fixed_decimal.specs.declared.signed.Decimal.{Decimal}
use Rattle.fixed_decimal.specs.SignDisplay.{is_negative}
use Rattle.fixed_decimal.specs.Size.{size}

-- the two ends of a range
pub record Ends : Type 0 where
  pub start : Decimal
  pub end : Decimal

-- the size of a decimal, below zero where it has a minus
abbrev pub signed_size : Decimal → ℤ
signed_size d = if is_negative d.sign then pos 0 -ℤ pos (size d.absolute) else pos (size d.absolute)

-- the first decimal is above the second; -0 is 0, and 1.0 is 1
abbrev pub IsAbove : Decimal → Decimal → Type 0
IsAbove d e = signed_size e <ℤ signed_size d
