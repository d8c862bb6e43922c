-- Entries of units.
use Rattle.std.specs.Prelude.{ℕ, List, [], ◌∷◌, Bool, true, false, ◌&&◌, nat_eq, Option, Some, None, Result, Ok, codes, if◌then◌else◌}
use Rattle.std.specs.Cmp.Lexicographic.{pointwise}
use Rattle.serde_json.specs.Data.{Data}
use Rattle.icu_pattern.specs.Patterns.{PatternText}
use Rattle.icu_plurals.specs.Elements.{Elements}
use Rattle.icu_provider.specs.Identifier.{Identifier, same_identifier}
use Rattle.icu_dimension_tables.specs.declared.units.UnitWidth.{UnitWidth}
use Rattle.icu_dimension_tables.specs.declared.units.UnitWidth.TheVariants.{Long, Short, Narrow}
use Rattle.icu_table_entries.specs.CategoryTexts.{category_texts_in, patterns_of}
use Rattle.icu_table_entries.specs.Named.{locale_of, refused}
use Rattle.icu_table_entries.specs.Reading.{◌>>=◌, member_at, object_in, text_at}
use Rattle.icu_table_entries.specs.declared.error.EntryFault.TheVariants.{BadWidth}
use Rattle.icu_table_entries.specs.declared.error.Key.TheVariants.{Locale, Width, Unit, Patterns}
use Rattle.icu_table_entries.specs.declared.error.Position.{Position}
use Rattle.icu_table_entries.specs.declared.error.TableError.{TableError}

-- the patterns of a unit in a width; the unit is what the identifier has besides the locale
pub record UnitPatterns : Type 0 where
  pub identifier : Identifier
  pub width : UnitWidth
  pub patterns : Elements PatternText

-- the width of a name
unfoldable pub width_of : Position → List ℕ → Result UnitWidth TableError
width_of position name =
    if pointwise nat_eq name (codes "long") then Ok Long
    else if pointwise nat_eq name (codes "short") then Ok Short
    else if pointwise nat_eq name (codes "narrow") then Ok Narrow
    else refused position BadWidth

-- an entry: first the kinds of all its fields, then its locale, its width and its patterns
unfoldable pub units_at : Position → Data → Result UnitPatterns TableError
units_at position d = do
  d ← object_in position.key d
  locale ← text_at Locale d
  width ← text_at Width d
  unit ← text_at Unit d
  patterns ← member_at Patterns d
  texts ← category_texts_in Patterns patterns
  locale ← locale_of position locale
  width ← width_of position width
  patterns ← patterns_of position texts
  Ok (record { identifier = record { system = Some unit; locale = locale }; width = width; patterns = patterns })

-- whether two widths are the same
abbrev pub same_width : UnitWidth → UnitWidth → Bool
same_width Long Long = true
same_width Short Short = true
same_width Narrow Narrow = true
same_width _ _ = false

-- the patterns of the first entry of a width with an identifier
unfoldable pub first_unit : UnitWidth → Identifier → List UnitPatterns → Option (Elements PatternText)
first_unit width id [] = None
first_unit width id (e ∷ es) =
    if same_width width e.width && same_identifier id e.identifier then Some e.patterns else first_unit width id es
