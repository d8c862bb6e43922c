-- What is shown: tests of whole parts, units and carries.
use Rattle.std.proofs.Common.{◌≡◌, ℕ, ◌+◌, ◌-◌, ◌*◌, ◌^◌, ◌≤◌, inl, inr, min, pos, negsuc, ltb, sym, ◌∙◌, arith}
use Rattle.std.proofs.lemmas.Bool.{cases_lt, lt-ltb, le-ltb}
use Rattle.fixed_decimal.specs.Unsigned.{Unsigned, IsUnsigned, integer}
use Rattle.fixed_decimal.specs.Size.{weighed, finest, size, ten_to}
use Rattle.fixed_decimal.proofs.Weights.{same_power}
use Rattle.scaled_units.proofs.Wholes.{reached_by, below_by}

-- a whole part is below a bound where the number is
pub below_test : (d : Unsigned) (w b l : ℕ) → IsUnsigned d → w ≡ min (weighed 0 (integer d)) l → b ≤ l →
    ltb w b ≡ ltb (size d) (b * ten_to (pos 0))
below_test d w b l is e large = elim (cases_lt w b) [
  | inl h ↦ lt-ltb w b h ∙ sym (lt-ltb (size d) (b * ten_to (pos 0)) (below_by d b l is large (omega arith)))
  | inr h ↦ le-ltb w b h ∙ sym (le-ltb (size d) (b * ten_to (pos 0)) (reached_by d b l is (omega arith)))
]

-- ten to the power 0
pub unit_whole : (n : ℕ) → n ≡ 0 → ten_to (pos 0) ≡ 10 ^ (finest - n)
unit_whole n none = same_power (finest + 0) (finest - n) (omega arith)

-- ten to the power -1
pub unit_tenth : (n : ℕ) → n ≡ 1 → ten_to (negsuc 0) ≡ 10 ^ (finest - n)
unit_tenth n one = same_power (finest - (0 + 1)) (finest - n) (omega arith)
