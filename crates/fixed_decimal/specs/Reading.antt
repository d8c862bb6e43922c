-- The decimal that a text spells, computed.
use Rattle.std.specs.Prelude.{ℕ, ◌-◌, ◌==◌, List, [], ◌∷◌, ◌++◌, length, Option, Some, None, if◌then◌else◌}
use Rattle.std.specs.Char.{is_ascii_digit}
use Rattle.fixed_decimal.specs.declared.signs.Sign.{Sign}
use Rattle.fixed_decimal.specs.declared.signs.Sign.TheVariants.{None as no_sign, Negative, Positive}
use Rattle.fixed_decimal.specs.Unsigned.{Unsigned}
use Rattle.fixed_decimal.specs.Text.{plus_sign, minus_sign, point, digit_zero, integer_of}

-- the digits that a text begins with, and what follows them
pub record Digits : Type 0 where
  pub values : List ℕ
  pub rest : List ℕ

-- the same with one more digit in front
abbrev pub digit_before : ℕ → Digits → Digits
digit_before b d = record { values = (b - digit_zero) ∷ d.values; rest = d.rest }

-- the digits that a text begins with, and what follows them
abbrev pub leading_digits : List ℕ → Digits
leading_digits [] = record { values = []; rest = [] }
leading_digits (b ∷ bs) = if is_ascii_digit b then digit_before b (leading_digits bs) else record { values = []; rest = b ∷ bs }

-- the number with these digits before the point and these after it
abbrev pub number : List ℕ → List ℕ → Option Unsigned
number before after = Some (record { digits = integer_of before ++ after; scale = length after })

-- the number with these digits and no point; there has to be a digit
abbrev pub whole_number : List ℕ → Option Unsigned
whole_number [] = None
whole_number (d ∷ ds) = number (d ∷ ds) []

-- the number with these digits before and after the point; there has to be a digit after it, and nothing behind
abbrev pub with_fraction : List ℕ → List ℕ → List ℕ → Option Unsigned
with_fraction before [] rest = None
with_fraction before (d ∷ ds) [] = number before (d ∷ ds)
with_fraction before (d ∷ ds) (b ∷ bs) = None

-- the number that these digits before the point and the bytes that follow them spell
abbrev pub after_integer : List ℕ → List ℕ → Option Unsigned
after_integer before [] = whole_number before
after_integer before (b ∷ bs) =
    if b == point then with_fraction before (leading_digits bs).values (leading_digits bs).rest else None

-- the number that a text without a sign spells
abbrev pub unsigned_reading : List ℕ → Option Unsigned
unsigned_reading text = after_integer (leading_digits text).values (leading_digits text).rest

-- the sign with the number, if there is one
abbrev pub signed : Sign → Option Unsigned → Option (Sign × Unsigned)
signed sign None = None
signed sign (Some d) = Some (sign, d)

-- the sign and the number that a text spells, if it spells any
unfoldable pub reading : List ℕ → Option (Sign × Unsigned)
reading [] = None
reading (b ∷ bs) =
    if b == minus_sign then signed Negative (unsigned_reading bs)
    else (if b == plus_sign then signed Positive (unsigned_reading bs) else signed no_sign (unsigned_reading (b ∷ bs)))
