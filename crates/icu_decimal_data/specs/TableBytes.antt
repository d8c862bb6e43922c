-- The byte string of a table: the number of entries, the length of the pool, a record for each entry, the pool.
use Rattle.std.specs.Prelude.{ℕ, ◌+◌, ◌/◌, ◌%◌, List, [], ◌∷◌, ◌++◌, length, Option, Some, None}
use Rattle.icu_pattern.specs.Patterns.{PatternText}
use Rattle.icu_plurals.specs.Elements.{slots}
use Rattle.icu_decimal_data.specs.CompactTable.{TableEntry}
use Rattle.icu_decimal_data.specs.PackedTable.{literal_of, slot_literals, literals}

-- how long the two numbers in front are
abbrev pub head_len : ℕ
head_len = 4

-- how long a record is: its type, its exponent and eight slots
abbrev pub record_len : ℕ
record_len = 58

-- where the slots of the first record begin
abbrev pub slots_start : ℕ
slots_start = 6

-- how long a slot is
abbrev pub slot_len : ℕ
slot_len = 7

-- a number below 65,536, the low byte first
abbrev pub number_bytes : ℕ → List ℕ
number_bytes n = n % 256 ∷ n / 256 ∷ []

-- 1 without a place, 2 with one
abbrev pub kind_of : Option ℕ → ℕ
kind_of None = 1
kind_of (Some k) = 2

-- the place, or 0 without one
abbrev pub placeholder_number : Option ℕ → ℕ
placeholder_number None = 0
placeholder_number (Some k) = k

-- seven bytes: kind, start in the pool, length of the literal, place in it
abbrev pub slot_bytes : ℕ → Option PatternText → List ℕ
slot_bytes start None = 0 ∷ 0 ∷ 0 ∷ 0 ∷ 0 ∷ 0 ∷ 0 ∷ []
slot_bytes start (Some p) = kind_of p.placeholder ∷ (number_bytes start
    ++ (number_bytes (length p.literal) ++ number_bytes (placeholder_number p.placeholder)))

-- slots whose first literal begins at a place in the pool
abbrev pub slots_bytes : ℕ → List (Option PatternText) → List ℕ
slots_bytes start [] = []
slots_bytes start (s ∷ ss) = slot_bytes start s ++ slots_bytes (start + length (literal_of s)) ss

-- 58 bytes: the type, the exponent, eight slots
abbrev pub record_bytes : ℕ → TableEntry → List ℕ
record_bytes start e = e.log10_type ∷ e.exponent ∷ slots_bytes start (slots e.elements)

-- the records of entries one after another
abbrev pub records_bytes : ℕ → List TableEntry → List ℕ
records_bytes start [] = []
records_bytes start (e ∷ es) = record_bytes start e ++ records_bytes (start + length (slot_literals (slots e.elements))) es

-- the two numbers, the records and the pool
unfoldable pub table_bytes : List TableEntry → List ℕ
table_bytes t = number_bytes (length t) ++ (number_bytes (length (literals t)) ++ (records_bytes 0 t ++ literals t))
