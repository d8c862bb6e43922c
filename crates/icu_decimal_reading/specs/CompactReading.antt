-- What the text of a compact number is read as, and at which byte a text is no compact number.
use Rattle.std.specs.Prelude.{◌≡◌, ℕ, max, ◌==◌, List, [], ◌∷◌, length, if◌then◌else◌}
use Rattle.fixed_decimal.specs.declared.signs.Sign.{Sign}
use Rattle.fixed_decimal.specs.declared.signs.Sign.TheVariants.{Negative, Positive, None as NoSign}
use Rattle.fixed_decimal.specs.Unsigned.{Unsigned, IsUnsigned}
use Rattle.writeable.specs.Events.{characters}
use Rattle.icu_decimal_data.specs.CompactTable.{TableEntry}
use Rattle.icu_decimal.specs.CompactFormat.{CompactFormat, exponent_needed, events_with_exponent}
use Rattle.icu_decimal_reading.specs.Reading.{alike, is_decimal, last_run, number_of, values}

-- the characters with which a compact formatter writes a significand and an exponent
abbrev pub compact_written : CompactFormat → Sign → Unsigned → ℕ → List ℕ
compact_written f sign u n = characters (events_with_exponent f sign u n)

-- The characters are the formatter's text of a significand, with its sign, and an exponent: the formatter accepts the
-- exponent for the significand, and writes them so.
pub record IsCompactTextOf (f : CompactFormat) (cs : List ℕ) (sign : Sign) (u : Unsigned) (n : ℕ) : Type 0 where
  pub accepted : n ≡ exponent_needed f u n
  pub text : cs ≡ compact_written f sign u n

-- the characters are the formatter's text of no significand and exponent
abbrev pub IsNoCompactText : CompactFormat → List ℕ → Type 0
IsNoCompactText f cs = (sign : Sign) (u : Unsigned) (n : ℕ) → IsUnsigned u → ¬ (IsCompactTextOf f cs sign u n)

-- the characters are with no sign the text of this significand and this exponent
abbrev pub IsOfNoSign : CompactFormat → List ℕ → Unsigned → ℕ → Type 0
IsOfNoSign f cs u n = (sign : Sign) → ¬ (IsCompactTextOf f cs sign u n)

-- ---- the byte at which a text is no compact number

-- how many bytes take the characters with which both the text and that of the compact number begin; 0 if the formatter
-- doesn't accept the exponent
abbrev pub alike_with : CompactFormat → List ℕ → Sign → Unsigned → ℕ → ℕ
alike_with f cs sign u n = if n == exponent_needed f u n then alike cs (compact_written f sign u n) else 0

-- the first byte at which characters differ from each text of the significand and the exponent: without a sign, with a
-- minus and with a plus
abbrev pub differs_with : CompactFormat → List ℕ → Unsigned → ℕ → ℕ
differs_with f cs u n = max (max (alike_with f cs NoSign u n) (alike_with f cs Negative u n)) (alike_with f cs Positive u n)

-- the same of the exponents of entries
abbrev pub differs_by : CompactFormat → List ℕ → Unsigned → List TableEntry → ℕ
differs_by f cs u [] = 0
differs_by f cs u (e ∷ es) = max (differs_with f cs u e.exponent) (differs_by f cs u es)

-- the same of exponent 0 and those of the formatter's table
abbrev pub differs_throughout : CompactFormat → List ℕ → Unsigned → ℕ
differs_throughout f cs u = max (differs_with f cs u 0) (differs_by f cs u f.table)

-- the same of the significand that the digits of the characters make, so many of them behind the separator; 0 if they make
-- none
abbrev pub differs_by_digits : CompactFormat → List ℕ → List ℕ → ℕ → ℕ
differs_by_digits f cs ds scale = if is_decimal (length ds) scale then differs_throughout f cs (number_of ds scale) else 0

-- The byte of a fault: the first at which the text differs from each text that the formatter writes of a significand that
-- its digits make: the whole number, and the one with the last run of digits behind the separator. It is the length of the
-- text, if the text only ends too early.
abbrev pub compact_fault_byte : CompactFormat → List ℕ → ℕ
compact_fault_byte f cs =
    max (differs_by_digits f cs (values f.decimal.digits cs) 0)
    (differs_by_digits f cs (values f.decimal.digits cs) (last_run f.decimal.digits cs))
