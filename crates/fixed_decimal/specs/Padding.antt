-- How many digits below power 0 write a number (ICU4X `pad_end`).
use Rattle.std.specs.Prelude.{ℕ, ◌-◌, ◌^◌}
use Rattle.fixed_decimal.specs.Size.{finest}
use Rattle.fixed_decimal.specs.Nearest.{IsMultiple}

-- that many digits below power 0 write the size exactly
abbrev pub IsExactWith : ℕ → ℕ → Type 0
IsExactWith x n = IsMultiple (10 ^ (finest - n)) x
