-- Numbers as a formatter wrote them.
use Rattle.std.specs.Prelude.{ℕ, Bool, true, ◌==◌, ◌&&◌, ◌||◌, not, List, [], ◌∷◌, Option, Some, None, if◌then◌else◌, decimal}
use Rattle.fixed_decimal.specs.Unsigned.{Unsigned, fraction}
use Rattle.icu_plurals.specs.Operands.{Operands, operands_of}

-- a number: its text, the plural operands of what the text shows, and the whole number that it is, if it is one
pub record Number : Type 0 where
  pub text : List ℕ
  pub operands : Operands
  pub whole : Option ℕ

-- the key `=` of a whole number; nothing without one
abbrev pub exact_key : Option ℕ → List ℕ
exact_key None = []
exact_key (Some v) = 61 ∷ decimal v

-- zeros alone
abbrev pub all_zeros : List ℕ → Bool
all_zeros [] = true
all_zeros (d ∷ ds) = d == 0 && all_zeros ds

-- the whole number below ten to the eighteenth that a decimal is, if it is one: its fraction digits are zeros, and it has no minus
-- unless it is zero
abbrev pub whole_of : Bool → Unsigned → Option ℕ
whole_of negative u =
    if ((operands_of u 0).is_large || not (all_zeros (fraction u))) || (negative && not ((operands_of u 0).i == 0)) then None
    else Some (operands_of u 0).i
