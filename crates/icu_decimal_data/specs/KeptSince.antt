-- The kept entries as a walk through the map finds them, with the last kept elements in hand.
use Rattle.std.specs.Prelude.{Bool, not, List, [], ◌∷◌, Option, Some, None, if◌then◌else◌}
use Rattle.icu_plurals.specs.Elements.{without_explicit_one}
use Rattle.icu_decimal_data.specs.CompactTable.{PatternElements, TableEntry}
use Rattle.icu_decimal_data.specs.Kept.{same_patterns, is_zero_magnitude}

-- whether elements are kept after the last kept ones, if any were kept before
abbrev pub stays : Option PatternElements → Option PatternElements → PatternElements → Bool
stays zero_magnitude None x = not (is_zero_magnitude zero_magnitude x)
stays zero_magnitude (Some last) x = not (same_patterns (without_explicit_one last) x)

-- what is kept of the entries that are left
abbrev pub kept_since : Option PatternElements → Option PatternElements → List TableEntry → List TableEntry
kept_since zero_magnitude last [] = []
kept_since zero_magnitude last (e ∷ es) = if stays zero_magnitude last e.elements then e ∷ kept_since zero_magnitude (Some e.elements) es
    else kept_since zero_magnitude last es
