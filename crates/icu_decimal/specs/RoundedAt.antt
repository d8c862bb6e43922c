-- Rounding at a place. Places reach below the powers of a decimal; at a decimal's power it is fixed_decimal's `IsNearestMultiple`.
use Rattle.std.specs.Prelude.{ℕ, ◌^◌, ◌≤◌, pos}
use Rattle.fixed_decimal.specs.Size.{ten_to}
use Rattle.fixed_decimal.specs.Nearest.{IsNearest, IsMultiple}

-- x rounded half to even to a multiple of ten to a place
abbrev pub IsRoundedAt : ℕ → ℕ → ℕ → Type 0
IsRoundedAt u x y = IsNearest (IsMultiple (10 ^ u)) (10 ^ u) x y

-- rounding at a place reaches ten to the power 32768
abbrev pub RoundsPast : ℕ → ℕ → Type 0
RoundsPast u x = (y : ℕ) × IsRoundedAt u x y × (ten_to (pos 32768) ≤ y)
