-- The two multiples of a power of ten around a number, with their distances from it.
use Rattle.std.specs.Prelude.{ℕ, ◌+◌, ◌-◌, ◌/◌, ◌%◌, ◌^◌, ◌==◌, ◌||◌, nat_lt}
use Rattle.std.specs.Prelude.{List, ◌++◌, length, replicate, codes, decimal, if◌then◌else◌}
use Rattle.fixed_decimal.specs.Size.{finest}
use Rattle.fixed_decimal.specs.Unsigned.{Unsigned, fraction, integer}
use Rattle.icu_plurals.specs.Operands.{number_of}

-- a number below ten to a power, with that many digits
abbrev pub filled : ℕ → ℕ → List ℕ
filled count n = replicate (count - length (decimal n)) 48 ++ decimal n

-- a number that counts units of ten to the power -scale, written with that many fraction digits
unfoldable pub fixed : ℕ → ℕ → List ℕ
fixed scale n = if scale == 0 then decimal n else decimal (n / 10 ^ scale) ++ codes "." ++ filled scale (n % 10 ^ scale)

-- the greatest multiple of a unit that is at most n, and the one above it, each with its distance; or n itself, where it is one
unfoldable pub between_text : ℕ → ℕ → ℕ → List ℕ
between_text scale unit n =
    if n % unit == 0 then fixed scale n ++ codes " itself" else fixed scale (n - n % unit) ++ codes " (" ++ fixed scale (n % unit) ++ codes " below), "
    ++ fixed scale (n - n % unit + unit) ++ codes " (" ++ fixed scale (unit - n % unit) ++ codes " above)"

-- how many digits stand below the power at a place, where that many stand below power 0
abbrev pub digits_below : ℕ → ℕ → ℕ
digits_below p scale = p + scale - finest

-- The multiples of ten to the power at a place around a number that is written with these digits before and behind the point; of
-- eighteen digits at most.
unfoldable pub around_text : ℕ → List ℕ → List ℕ → List ℕ
around_text p before behind =
    if nat_lt 18 (length before + length behind) || nat_lt 18 (digits_below p (length behind)) then codes "more than 18 digits"
    else between_text (length behind) (10 ^ digits_below p (length behind)) (number_of (before ++ behind))

-- the line of these multiples
unfoldable pub around_line : ℕ → Unsigned → List ℕ
around_line p d = codes "  around     " ++ around_text p (integer d) (fraction d) ++ codes "\n"
