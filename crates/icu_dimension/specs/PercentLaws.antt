-- Laws of a hundred times a number.
use Rattle.std.specs.Prelude.{◌≡◌, ◌≢◌, ◌*◌, ◌⊎◌, slice_index}
use Rattle.fixed_decimal.specs.Size.{size}
use Rattle.fixed_decimal.specs.Unsigned.{Unsigned, IsUnsigned, integer_count}
use Rattle.icu_dimension.specs.Percent.{hundredfold}

-- it is a hundred times as large
abbrev pub HundredfoldIsAHundredTimes : Type 0
HundredfoldIsAHundredTimes = (u : Unsigned) → IsUnsigned u → size (hundredfold u) ≡ 100 * size u

-- its first digit is that at power 0, or isn't 0
abbrev pub HundredfoldHasNoFirstZero : Type 0
HundredfoldHasNoFirstZero = (u : Unsigned) → (integer_count (hundredfold u) ≡ 1) ⊎ (slice_index (hundredfold u).digits 0 ≢ 0)
