-- What the characters of a shown number are: the digits of its significand, in the pattern of its magnitude.
use Rattle.std.specs.Prelude.{◌≡◌, ℕ, ◌++◌, List, [], Option, Some, None, take, drop}
use Rattle.std.specs.Str.{chars}
use Rattle.fixed_decimal.specs.Size.{magnitude_place}
use Rattle.fixed_decimal.specs.Unsigned.{Unsigned}
use Rattle.icu_decimal_data.specs.CompactTable.{TableEntry, entry_for, exponent_of}
use Rattle.icu_pattern.specs.Patterns.{PatternText}
use Rattle.writeable.specs.Events.{characters}
use Rattle.icu_decimal.specs.CompactFormat.{CompactFormat, pattern_of}
use Rattle.icu_decimal.specs.Decimal.{DecimalFormat, unsigned_events}
use Rattle.icu_decimal_interface.specs.Shown.{Shown, size_shown}

-- the digits of a significand as the plain formatter writes them: each by its character, in groups, with the separators
abbrev pub digits_text : DecimalFormat → Unsigned → List ℕ
digits_text format significand = characters (unsigned_events format significand)

-- A text in a pattern: what stands before the place, the text, what stands after it; the literal alone where the pattern
-- has no place.
abbrev pub in_pattern : Option ℕ → List ℕ → List ℕ → List ℕ
in_pattern None literal text = chars literal
in_pattern (Some k) literal text = chars (take k literal) ++ (text ++ chars (drop k literal))

-- the entry by which something is shown: that of the magnitude of its size; none where the table has none there
abbrev pub entry_shown : CompactFormat → Shown → Option TableEntry
entry_shown format n = entry_for format.table (magnitude_place (size_shown n))

-- the pattern in which it is shown: the one that the operands of its significand pick from the entry
abbrev pub pattern_shown : CompactFormat → Shown → PatternText
pattern_shown format n = pattern_of format (entry_shown format n) n.significand

-- What is shown spells its significand and its exponent: its characters are the digits of the significand in the pattern,
-- and the exponent is the one that the entry of this pattern names.
pub record Spells (format : CompactFormat) (n : Shown) : Type 0 where
  pub exponent_is : n.exponent ≡ exponent_of (entry_shown format n)
  pub spelled : characters n.events ≡ in_pattern (pattern_shown format n).placeholder (pattern_shown format n).literal
      (digits_text format.decimal n.significand)

-- a plain format as one with exponents: it has none
abbrev pub without_table : DecimalFormat → CompactFormat
without_table format = record { decimal = format; rules = []; table = [] }
