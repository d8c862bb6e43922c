-- How a number is rounded, and with which digits the shown number is written, computed. What it means is stated by `IsShown` of
-- number_rounding; these definitions follow no step of the code.
use Rattle.std.specs.Prelude.{ℕ, ◌+◌, ◌-◌, ◌^◌, ◌%◌, ◌==◌, max, nat_le, nat_lt, Bool, false, not, ◌||◌, Option, Some, None}
use Rattle.std.specs.Prelude.{Result, Ok, Err, if◌then◌else◌, pos}
use Rattle.fixed_decimal.specs.declared.modes.SignedRoundingMode.TheVariants.{Unsigned as OfSizes}
use Rattle.fixed_decimal.specs.declared.modes.UnsignedRoundingMode.TheVariants.{HalfEven}
use Rattle.fixed_decimal.specs.declared.signs.Sign.{Sign}
use Rattle.fixed_decimal.specs.Modes.{size_mode, taken_at}
use Rattle.fixed_decimal.specs.SignDisplay.{is_negative}
use Rattle.fixed_decimal.specs.Size.{finest, magnitude, magnitude_place, size, ten_to}
use Rattle.fixed_decimal.specs.Unsigned.{Unsigned}
use Rattle.decimal_lines.specs.Computed.{count_up_to, digits_from, scale_of}
use Rattle.decimal_lines.specs.declared.single_text.TextError.{TextError}
use Rattle.decimal_lines.specs.declared.single_text.TextError.TheVariants.{Overflow}
use Rattle.skeleton_settings.specs.declared.settings.Precision.TheVariants.{Fraction}
use Rattle.number_rounding.specs.declared.rounding.Rounding.{Rounding}
use Rattle.number_rounding.specs.Shown.{least_fraction_digits}
use Rattle.number_rounding.specs.Steps.{step}

-- the number of a size with that many digits at power 0 and above, and that many below
abbrev pub number_of : ℕ → ℕ → ℕ → Unsigned
number_of before after x = record { digits = digits_from x (finest - after) (before + after); scale = after }

-- rounding half to even to just that many fraction digits
abbrev pub half_even_to : ℕ → Rounding
half_even_to n = record {
  precision = Fraction n (Some n);
  mode = OfSizes HalfEven;
  hides_zeros_of_whole = false;
  integer_digits = 1;
}

-- what the mode takes of the multiples of the step at x's own magnitude, for a number with or without a minus
abbrev pub shown_size : Rounding → Bool → ℕ → ℕ
shown_size rounding minus x = taken_at (size_mode rounding.mode minus) (step rounding.precision (magnitude_place x)) x

-- how many digits at power 0 and above write the size y: as many as it needs, as many as are wanted, and one at least
abbrev pub digits_before : Rounding → ℕ → ℕ
digits_before rounding y = max (max 1 rounding.integer_digits) (count_up_to (magnitude y))

-- and how many below: as many as it needs, and the least count
abbrev pub digits_below : Rounding → ℕ → ℕ
digits_below rounding y = max (least_fraction_digits rounding y) (scale_of y)

-- whether a digit of the size y would stand at a power that no decimal has
abbrev pub is_past_limits : Rounding → ℕ → Bool
is_past_limits rounding y =
    nat_le (ten_to (pos 32768)) y || nat_lt 32768 rounding.integer_digits || nat_lt 32768 (digits_below rounding y)
    || not ((y % 10 ^ (finest - 32768)) == 0)

-- the number of the size y
abbrev pub number_shown : Rounding → ℕ → Result Unsigned TextError
number_shown rounding y = if is_past_limits rounding y then Err Overflow else Ok (number_of (digits_before rounding y) (digits_below rounding y) y)

-- the number that is shown for d; `Overflow` where it has a digit at a power that no decimal has
unfoldable pub shown_number : Rounding → Bool → Unsigned → Result Unsigned TextError
shown_number rounding minus d = number_shown rounding (shown_size rounding minus (size d))

-- that number, or d with its digits as they are given, where nothing says how it is rounded
abbrev pub rounded : Option Rounding → Sign → Unsigned → Result Unsigned TextError
rounded None sign d = Ok d
rounded (Some rounding) sign d = shown_number rounding (is_negative sign) d
