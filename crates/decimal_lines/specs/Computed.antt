-- The compact number nearest to a size, and the decimal of a size, computed. What they mean is stated by `IsNearestCompact`
-- and `IsDecomposed`; these definitions follow no step of the code.
use Rattle.std.specs.Prelude.{
  ℕ,
  zero,
  suc,
  ◌+◌,
  ◌-◌,
  ◌*◌,
  ◌^◌,
  ◌/◌,
  ◌%◌,
  ◌==◌,
  List,
  [],
  ◌∷◌,
  nat_lt,
  if◌then◌else◌,
  ℤ,
  pos,
  negsuc,
}
use Rattle.fixed_decimal.specs.Size.{finest, magnitude_place}
use Rattle.fixed_decimal.specs.Unsigned.{Unsigned}
use Rattle.icu_decimal_data.specs.CompactTable.{TableEntry, exponent_of}
use Rattle.icu_decimal.specs.CompactNumber.{rounding_place_for}
use Rattle.icu_decimal.specs.Decomposed.{decomposed_entry, decomposed_high}

-- to how many units x is rounded: one more than are in it if more than half a unit is left over, and of two equally near
-- counts the even one
unfoldable pub rounded_units : ℕ → ℕ → ℕ
rounded_units unit x =
    if nat_lt (2 * (x % unit)) unit then (x / unit) else (if nat_lt unit (2 * (x % unit)) then (x / unit + 1) else (x / unit + x / unit % 2))

-- the compact number nearest to a size
unfoldable pub nearest_number : List TableEntry → ℕ → ℕ
nearest_number table x = rounded_units (10 ^ rounding_place_for table (magnitude_place x)) x * 10 ^ rounding_place_for table (magnitude_place x)

-- the digits of x at n places from place e on, that of the greatest place first
unfoldable pub digits_from : ℕ → ℕ → ℕ → List ℕ
digits_from x e zero = []
digits_from x e (suc n) = (x / 10 ^ (e + n) % 10) ∷ digits_from x e n

-- the fewest digits below power 0, at most n, behind which x has no other digit
unfoldable pub scale_up_to : ℕ → ℕ → ℕ
scale_up_to x zero = 0
scale_up_to x (suc n) = if x % 10 ^ (finest - n) == 0 then scale_up_to x n else suc n

-- the fewest digits below power 0 that a size needs
unfoldable pub scale_of : ℕ → ℕ
scale_of x = scale_up_to x 32768

-- the decimal of a size, with that many digits at power 0 and above, and as few as it needs below
abbrev pub decimal_of : ℕ → ℕ → Unsigned
decimal_of count x = record { digits = digits_from x (finest - scale_of x) (count + scale_of x); scale = scale_of x }

-- how many powers there are from 0 up to this one
abbrev pub count_up_to : ℤ → ℕ
count_up_to (pos n) = n + 1
count_up_to (negsuc n) = 0

-- the significand by which d is displayed as the size y
unfoldable pub significand_shown : List TableEntry → Unsigned → ℕ → Unsigned
significand_shown table d y = decimal_of (count_up_to (decomposed_high table d y)) (y / 10 ^ exponent_of (decomposed_entry table y))
