-- Percents: a hundred times a number, and what is written for it.
use Rattle.std.specs.Prelude.{ℕ, ◌==◌, ◌⊎◌, List, [], ◌∷◌, ◌++◌, drop, length, negsuc, if◌then◌else◌}
use Rattle.fixed_decimal.specs.Unsigned.{Unsigned, IsWithinLimits, digit_at, fraction, integer}

-- the digits without zeros at their front; the last digit stays
abbrev pub trimmed : List ℕ → List ℕ
trimmed [] = []
trimmed (d ∷ []) = d ∷ []
trimmed (d ∷ e ∷ ds) = if d == 0 then trimmed (e ∷ ds) else d ∷ e ∷ ds

-- the digits at power 0 and above of a hundred times a number: those at power -2 and above of the number
abbrev pub integer_hundredfold : Unsigned → List ℕ
integer_hundredfold u = trimmed (integer u ++ digit_at u (negsuc 0) ∷ digit_at u (negsuc 1) ∷ [])

-- its digits below power 0: those below power -2
abbrev pub fraction_hundredfold : Unsigned → List ℕ
fraction_hundredfold u = drop 2 (fraction u)

-- a hundred times a number: the point is two places further right, and no leading zero stands but at power 0
abbrev pub hundredfold : Unsigned → Unsigned
hundredfold u = record { digits = integer_hundredfold u ++ fraction_hundredfold u; scale = length (fraction_hundredfold u) }

-- a hundred times the number has too many digits, or a formatter overflows for it
abbrev pub IsTooLarge : {F : Type 0} → (F → Unsigned → Type 0) → F → Unsigned → Type 0
IsTooLarge overflows f u = (¬ IsWithinLimits (hundredfold u)) ⊎ overflows f (hundredfold u)
