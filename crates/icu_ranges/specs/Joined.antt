-- Two texts with a separator between them.
use Rattle.std.specs.Prelude.{ℕ, Bool, true, false, ◌&&◌, List, [], ◌∷◌, ◌++◌, Option, Some, None, if◌then◌else◌}
use Rattle.ucd_category.specs.GeneralCategory.{general_category}
use Rattle.ucd_category.specs.declared.GeneralCategory.{GeneralCategory}
use Rattle.ucd_category.specs.declared.GeneralCategory.TheVariants.{DecimalNumber}
use Rattle.writeable.specs.Events.{Event, characters}
use Rattle.icu_ranges.specs.declared.edges.Edges.{Edges}
use Rattle.icu_ranges.specs.Edges.{last_of}
use Rattle.icu_ranges.specs.Separator.{Separator, plain_events, spaced_events}

-- the general category Nd
abbrev pub is_decimal_number : GeneralCategory → Bool
is_decimal_number DecimalNumber = true
is_decimal_number _ = false

-- a decimal digit of any script
abbrev pub is_digit : ℕ → Bool
is_digit c = is_decimal_number (general_category c)

-- the first and the last character are digits
abbrev pub has_digits : Option Edges → Bool
has_digits None = false
has_digits (Some e) = is_digit e.first && is_digit e.last

-- a text is bare: it begins and ends with a decimal digit
abbrev pub is_bare : List ℕ → Bool
is_bare [] = false
is_bare (c ∷ cs) = is_digit c && is_digit (last_of c cs)

-- the separator between two texts: the spaced one unless both are bare
abbrev pub between : Separator → List ℕ → List ℕ → List Event
between separator first second = if is_bare first && is_bare second then plain_events separator else spaced_events separator

-- two texts, with the separator between them
abbrev pub joined : Separator → List Event → List Event → List Event
joined separator first second = first ++ (between separator (characters first) (characters second) ++ second)
