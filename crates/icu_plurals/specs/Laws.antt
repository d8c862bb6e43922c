-- Laws of operands, for the callers of this crate.
use Rattle.std.specs.Prelude.{◌≡◌, ℕ, ◌*◌, ◌/◌, ◌^◌, pos, IsTrue}
use Rattle.fixed_decimal.specs.Unsigned.{Unsigned, IsUnsigned}
use Rattle.fixed_decimal.specs.Size.{size, ten_to}
use Rattle.icu_plurals.specs.Elements.{is_exactly}
use Rattle.icu_plurals.specs.Operands.{number_of, integer_after_moving, operands_of}

-- once the point is moved some places to the right, the digits before it write the integer part of the number times
-- ten to the places
abbrev pub MovingThePointMultiplies : Type 0
MovingThePointMultiplies = (d : Unsigned) (places : ℕ) → IsUnsigned d →
    number_of (integer_after_moving places d) ≡ size d * 10 ^ places / ten_to (pos 0)

-- a number that is exactly n by its operands, written without fraction digits or an exponent, is n
abbrev pub ExactlyIsTheNumber : Type 0
ExactlyIsTheNumber = (d : Unsigned) (n : ℕ) → IsUnsigned d → IsTrue (is_exactly n (operands_of d 0)) → size d ≡ n * ten_to (pos 0)
