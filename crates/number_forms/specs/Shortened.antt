-- Compact numbers by a rounding that is asked for, computed. What it means is stated by `IsShown` of number_rounding; these
-- definitions follow no step of the code.
use Rattle.std.specs.Prelude.{ℕ, ◌/◌, ◌%◌, ◌^◌, ◌==◌, nat_le, pos, List, Bool, true, Result, Ok, Err, if◌then◌else◌}
use Rattle.fixed_decimal.specs.Increments.{unit_of}
use Rattle.fixed_decimal.specs.Modes.{size_mode, taken_at}
use Rattle.fixed_decimal.specs.SignDisplay.{is_negative}
use Rattle.fixed_decimal.specs.Size.{magnitude_place, size, ten_to}
use Rattle.fixed_decimal.specs.Unsigned.{Unsigned}
use Rattle.fixed_decimal.specs.declared.signs.Sign.{Sign}
use Rattle.writeable.specs.Events.{Event}
use Rattle.icu_decimal_data.specs.CompactTable.{TableEntry, exponent_of}
use Rattle.icu_decimal.specs.CompactFormat.{CompactFormat, events_with_exponent}
use Rattle.icu_decimal.specs.Decomposed.{decomposed_entry}
use Rattle.decimal_lines.specs.declared.single_text.TextError.{TextError}
use Rattle.decimal_lines.specs.declared.single_text.TextError.TheVariants.{Overflow}
use Rattle.skeleton_settings.specs.declared.settings.Precision.{Precision}
use Rattle.skeleton_settings.specs.declared.settings.Precision.TheVariants.{Fraction, Significant, Increment, Both, Currency}
use Rattle.number_rounding.specs.declared.rounding.Rounding.{Rounding}
use Rattle.number_rounding.specs.Showable.{unit_at}
use Rattle.number_forms.specs.Rounded.{number_shown}
use Rattle.number_forms.specs.Scaled.{scaled}

-- a significand, and the power of ten that its pattern names
pub record Shortened : Type 0 where
  pub significand : Unsigned
  pub exponent : ℕ

-- whether 1 is a multiple of the increment, if there is one
abbrev pub divides_one : Precision → Bool
divides_one (Fraction least most) = true
divides_one (Significant least most) = true
divides_one (Increment increment power least) = (ten_to (pos 0) % unit_of increment power) == 0
divides_one (Currency is_cash) = true
divides_one (Both least most few many priority keeps_least) = true

-- what the mode takes of the showable sizes around x, for a number with or without a minus
abbrev pub compact_size : Rounding → List TableEntry → Bool → ℕ → ℕ
compact_size rounding table minus x = taken_at (size_mode rounding.mode minus) (unit_at rounding.precision table (magnitude_place x)) x

-- the power of ten that the pattern of a size names
abbrev pub compact_exponent : List TableEntry → ℕ → ℕ
compact_exponent table y = exponent_of (decomposed_entry table y)

-- a number with this exponent, if it is one
abbrev pub with_exponent : ℕ → Result Unsigned TextError → Result Shortened TextError
with_exponent e (Ok u) = Ok (record { significand = u; exponent = e })
with_exponent e (Err error) = Err error

-- the size y as a significand and an exponent; `Overflow` where it has a digit at a power that no decimal has
abbrev pub size_shortened : Rounding → List TableEntry → ℕ → Result Shortened TextError
size_shortened rounding table y =
    if nat_le (ten_to (pos 32768)) y then Err Overflow
    else with_exponent (compact_exponent table y) (number_shown rounding (y / 10 ^ compact_exponent table y))

-- what is shown of d; nothing is by an increment of which 1 is no multiple
unfoldable pub shortened : Rounding → List TableEntry → Bool → Unsigned → Result Shortened TextError
shortened rounding table minus d =
    if divides_one rounding.precision then size_shortened rounding table (compact_size rounding table minus (size d)) else Err Overflow

-- the number that a significand with an exponent is
abbrev pub number_meant : Result Shortened TextError → Result Unsigned TextError
number_meant (Ok number) = scaled (pos number.exponent) number.significand
number_meant (Err error) = Err error

-- what is written of it
abbrev pub events_meant : CompactFormat → Sign → Result Shortened TextError → Result (List Event) TextError
events_meant format sign (Ok number) = Ok (events_with_exponent format sign number.significand number.exponent)
events_meant format sign (Err error) = Err error

-- the number that is shown of d, and what is written of it
abbrev pub shortened_number : Rounding → CompactFormat → Sign → Unsigned → Result Unsigned TextError
shortened_number rounding format sign d = number_meant (shortened rounding format.table (is_negative sign) d)

abbrev pub shortened_events : Rounding → CompactFormat → Sign → Unsigned → Result (List Event) TextError
shortened_events rounding format sign d = events_meant format sign (shortened rounding format.table (is_negative sign) d)
