-- A number multiplied by a power of ten, computed.
use Rattle.std.specs.Prelude.{◌≡◌, ℕ, ℤ, zero, suc, pos, negsuc, ◌+◌, ◌-◌, ◌*◌, ◌/◌, ◌^◌, max, nat_le, nat_lt, ◌||◌}
use Rattle.std.specs.Prelude.{Result, Ok, Err, if◌then◌else◌}
use Rattle.fixed_decimal.specs.Rounding.{scale_at, zeros_at}
use Rattle.fixed_decimal.specs.Size.{magnitude, size, ten_to}
use Rattle.fixed_decimal.specs.Unsigned.{Unsigned, IsUnsigned, integer_count}
use Rattle.decimal_lines.specs.Computed.{count_up_to}
use Rattle.decimal_lines.specs.declared.single_text.TextError.{TextError}
use Rattle.decimal_lines.specs.declared.single_text.TextError.TheVariants.{Overflow}
use Rattle.number_forms.specs.Rounded.{number_of}

-- the size x times ten to the power k
abbrev pub moved_size : ℤ → ℕ → ℕ
moved_size k x = x * 10 ^ zeros_at k / 10 ^ scale_at k

-- how many digits stand below power 0 when each of n such digits stands k powers higher
abbrev pub moved_scale : ℤ → ℕ → ℕ
moved_scale (pos k) n = n - k
moved_scale (negsuc k) n = n + (k + 1)

-- the number of a size with that many digits below power 0 and without zeros before it, or `Overflow` if a digit would stand at a
-- power that no decimal has
abbrev pub number_at : ℕ → ℕ → Result Unsigned TextError
number_at below y =
    if nat_le (ten_to (pos 32768)) y || nat_lt 32768 below then Err Overflow else Ok (number_of (max 1 (count_up_to (magnitude y))) below y)

-- y is d with the same digits below power 0, and without zeros before it
pub record IsBare (d y : Unsigned) : Type 0 where
  pub size_is : size y ≡ size d
  pub scale_is : y.scale ≡ d.scale
  pub count_is : integer_count y ≡ max 1 (count_up_to (magnitude (size d)))
  pub valid : IsUnsigned y

-- each digit of d, k powers higher
unfoldable pub moved_number : ℤ → Unsigned → Result Unsigned TextError
moved_number k d = number_at (moved_scale k d.scale) (moved_size k (size d))

-- d times ten to the power k; d with its digits as they are where k is 0
abbrev pub scaled : ℤ → Unsigned → Result Unsigned TextError
scaled (pos zero) d = Ok d
scaled (pos (suc k)) d = moved_number (pos (suc k)) d
scaled (negsuc k) d = moved_number (negsuc k) d
