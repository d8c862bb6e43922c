-- What a table keeps of a map: entries by rising type, each a type, its exponent and its elements.
use Rattle.std.specs.Prelude.{ℕ, Bool, false, List, [], ◌∷◌, Option, if◌then◌else◌, map}
use Rattle.std.specs.Option.{option_map, option_map_or}
use Rattle.std.specs.Borrow.{Bor}
use Rattle.icu_pattern.specs.Patterns.{same_pattern}
use Rattle.icu_plurals.specs.Elements.{same_elements, without_explicit_one}
use Rattle.icu_decimal_data.specs.CompactTable.{PatternElements, TableEntry}

-- whether all patterns are the same
abbrev pub same_patterns : PatternElements → PatternElements → Bool
same_patterns = same_elements same_pattern

-- the entries of a map from types to exponents and elements
abbrev pub as_table : List (ℕ × (ℕ × PatternElements)) → List TableEntry
as_table = map (λ (p : ℕ × (ℕ × PatternElements)). record { log10_type = p.0; exponent = p.1.0; elements = p.1.1 })

-- whether the elements equal those of the zero magnitude, if these are given
abbrev pub is_zero_magnitude : Option PatternElements → PatternElements → Bool
is_zero_magnitude zero_magnitude x = option_map_or (same_patterns x) zero_magnitude false

-- the leading entries with such elements, which are skipped
abbrev pub skipped : Option PatternElements → List TableEntry → List TableEntry
skipped zero_magnitude [] = []
skipped zero_magnitude (e ∷ es) = if is_zero_magnitude zero_magnitude e.elements then e ∷ skipped zero_magnitude es else []

-- the entries from the first one on that isn't skipped
abbrev pub unskipped : Option PatternElements → List TableEntry → List TableEntry
unskipped zero_magnitude [] = []
unskipped zero_magnitude (e ∷ es) = if is_zero_magnitude zero_magnitude e.elements then unskipped zero_magnitude es else e ∷ es

-- whether an entry has the elements of its predecessor, without the predecessor's pattern for exactly one
abbrev pub repeats : TableEntry → TableEntry → Bool
repeats before e = same_patterns (without_explicit_one before.elements) e.elements

-- the entries that don't repeat their predecessor
abbrev pub changes : TableEntry → List TableEntry → List TableEntry
changes before [] = []
changes before (e ∷ es) = if repeats before e then changes e es else e ∷ changes e es

-- the first entry, and each later one that doesn't repeat its predecessor
abbrev pub first_and_changes : List TableEntry → List TableEntry
first_and_changes [] = []
first_and_changes (e ∷ es) = e ∷ changes e es

-- the first entry that isn't skipped, and each later one that doesn't repeat its predecessor
abbrev pub kept : Option PatternElements → List TableEntry → List TableEntry
kept zero_magnitude es = first_and_changes (unskipped zero_magnitude es)

-- the value of a reference, if there is one
abbrev pub at : Option (Bor PatternElements) → Option PatternElements
at = option_map (λ (z : Bor PatternElements). z.now)
