-- The tables that can be packed: those that are made of a map.
use Rattle.std.specs.Prelude.{◌≡◌, ℕ, ◌+◌, ◌≤◌, ◌<◌, ◌^◌, Bool, false, ◌&&◌, List, [], ◌∷◌, ◌++◌, length, Option, Some}
use Rattle.std.specs.Prelude.{None, IsTrue, IsSome, IfSome, ⊤}
use Rattle.std.specs.Str.{is_utf8}
use Rattle.icu_pattern.specs.Patterns.{PatternText, placeholder_alone}
use Rattle.icu_plurals.specs.Elements.{slots}
use Rattle.icu_decimal_data.specs.CompactTable.{TableEntry, shift_limit}
use Rattle.icu_decimal_data.specs.CompactFaults.{fault_of}
use Rattle.icu_decimal_data.specs.Kept.{kept, repeats}

-- What packing needs of a backend, by its test: a place that it accepts lies in the literal, and where it accepts any
-- pattern with a place, it accepts the place alone.
pub record IsBackend (accepts : PatternText → Bool) : Type 0 where
  pub inside : (p : PatternText) → IsTrue (accepts p) → IfSome p.placeholder (λ k. k ≤ length p.literal)
  pub opened : (p : PatternText) → IsTrue (accepts p) → IsSome p.placeholder → IsTrue (accepts placeholder_alone)

-- whether a pattern's literal is UTF-8 and the backend accepts the pattern
abbrev pub is_pattern : (PatternText → Bool) → PatternText → Bool
is_pattern accepts p = is_utf8 p.literal && accepts p

-- each slot is absent or a pattern of the backend
abbrev pub ArePatterns : (PatternText → Bool) → List (Option PatternText) → Type 0
ArePatterns accepts [] = ⊤
ArePatterns accepts (None ∷ ss) = ArePatterns accepts ss
ArePatterns accepts (Some p ∷ ss) = IsTrue (is_pattern accepts p) × ArePatterns accepts ss

-- each type is a byte, and each slot absent or a pattern of the backend
abbrev pub AreWritable : (PatternText → Bool) → List TableEntry → Type 0
AreWritable accepts [] = ⊤
AreWritable accepts (e ∷ es) = (e.log10_type < 256) × ArePatterns accepts (slots e.elements) × AreWritable accepts es

-- An entry may follow another if its type is above, its exponent isn't below, and it doesn't repeat the other's patterns
-- without that for exactly one.
abbrev pub Follows : Option TableEntry → TableEntry → Type 0
Follows None e = ⊤
Follows (Some before) e = (before.log10_type < e.log10_type) × (before.exponent ≤ e.exponent) × (repeats before e ≡ false)

-- The type is a byte, the exponent is not above it and at most 15 below, and the patterns are the backend's.
pub record IsEntry (accepts : PatternText → Bool) (e : TableEntry) : Type 0 where
  pub is_byte : e.log10_type < 256
  pub below : e.exponent ≤ e.log10_type
  pub few_zeros : e.log10_type ≤ e.exponent + shift_limit
  pub patterns : ArePatterns accepts (slots e.elements)

-- each is an entry that may stand after the one before
abbrev pub AreEntries : (PatternText → Bool) → Option TableEntry → List TableEntry → Type 0
AreEntries accepts before [] = ⊤
AreEntries accepts before (e ∷ es) = IsEntry accepts e × Follows before e × AreEntries accepts (Some e) es

-- the literal of a slot, or nothing
abbrev pub literal_of : Option PatternText → List ℕ
literal_of None = []
literal_of (Some p) = p.literal

-- the literals of some slots
abbrev pub slot_literals : List (Option PatternText) → List ℕ
slot_literals [] = []
slot_literals (s ∷ ss) = literal_of s ++ slot_literals ss

-- the literals of all entries, in the order of entries and slots
abbrev pub literals : List TableEntry → List ℕ
literals [] = []
literals (e ∷ es) = slot_literals (slots e.elements) ++ literals es

-- at most 256 entries, each of which may stand after the one before, with literals of less than 65,536 bytes together
pub record IsPackable (accepts : PatternText → Bool) (table : List TableEntry) : Type 0 where
  pub counted : length table ≤ 256
  pub short : length (literals table) < 2 ^ 16
  pub entries : AreEntries accepts None table

-- Each table that can be packed is made of a map: that of its own entries has no fault, and keeps them all.
abbrev pub PackableIsMade : Type 0
PackableIsMade = (accepts : PatternText → Bool) (t : List TableEntry) → IsPackable accepts t → (kept None t ≡ t) × (fault_of None t ≡ None)
