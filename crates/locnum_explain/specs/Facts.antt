-- The lines of facts about a number: its magnitude, the entry of a compact table for it, and the pattern in which it stands.
use Rattle.std.specs.Prelude.{ℕ, List, ◌++◌, take, drop, Option, Some, None, codes, decimal}
use Rattle.std.specs.Fmt.{signed_decimal}
use Rattle.fixed_decimal.specs.Size.{magnitude, size}
use Rattle.fixed_decimal.specs.Unsigned.{Unsigned}
use Rattle.icu_decimal_data.specs.CompactTable.{TableEntry, entry_for}
use Rattle.icu_pattern.specs.Patterns.{PatternText}

-- a label, a text, and the end of a line
unfoldable pub fact : List ℕ → List ℕ → List ℕ
fact label text = label ++ text ++ codes "\n"

-- the magnitude of a number: the power of ten of its first digit that isn't 0
unfoldable pub magnitude_line : Unsigned → List ℕ
magnitude_line d = fact (codes "  magnitude  ") (signed_decimal (magnitude (size d)))

-- a type and an exponent
unfoldable pub type_and_exponent : ℕ → ℕ → List ℕ
type_and_exponent log10_type exponent = codes "type " ++ decimal log10_type ++ codes ", exponent " ++ decimal exponent

-- the type and the exponent of an entry
abbrev pub entry_text : Option TableEntry → List ℕ
entry_text None = codes "none"
entry_text (Some e) = type_and_exponent e.log10_type e.exponent

-- the entry of the magnitude at a place
unfoldable pub entry_line : List TableEntry → ℕ → List ℕ
entry_line table m = codes "  entry      " ++ entry_text (entry_for table m) ++ codes "\n"

-- a literal with `{0}` behind its first k bytes; without an offset the literal alone
abbrev pub with_placeholder : List ℕ → Option ℕ → List ℕ
with_placeholder literal None = literal
with_placeholder literal (Some k) = take k literal ++ codes "{0}" ++ drop k literal

-- the line of a literal and an offset
unfoldable pub placeholder_line : List ℕ → Option ℕ → List ℕ
placeholder_line literal placeholder = codes "  pattern    " ++ with_placeholder literal placeholder ++ codes "\n"

-- a pattern, with `{0}` where the number stands
unfoldable pub pattern_line : PatternText → List ℕ
pattern_line p = placeholder_line p.literal p.placeholder
