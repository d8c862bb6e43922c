-- The number of a short text, which is kept as sixteen values: the first of them are its digits.
use Rattle.std.specs.Prelude.{ℕ, List, take}
use Rattle.fixed_decimal.specs.Unsigned.{Unsigned}

-- the number with the first `count` values as its digits, of which `scale` stand below power 0
abbrev pub short_number : List ℕ → ℕ → ℕ → Unsigned
short_number values count scale = record { digits = take count values; scale = scale }
