-- What a field contains, and the columns that a header names.
use Rattle.std.specs.Prelude.{ℕ, Bool, true, not, ◌==◌, List, [], ◌∷◌, ◌++◌, map, take, Option, if◌then◌else◌}
use Rattle.locnum_lines.specs.Csv.{core_length}
use Rattle.locnum_lines.specs.Fields.{cut_field}
use Rattle.locnum_lines.specs.Named.{column_from}
use Rattle.locnum_lines.specs.declared.settings.Delimiter.{Delimiter}
use Rattle.locnum_lines.specs.declared.settings.Delimiter.TheVariants.{Blanks, Byte, Csv}
use Rattle.locnum_ranges.specs.Fields.{csv_place, fields_in}
use Rattle.locnum_ranges.specs.declared.cutting.Place.{Place}
use Rattle.locnum_ranges.specs.declared.cutting.Place.TheVariants.{Front, Plain, Quoted, AfterQuote}

-- whether a byte at this place is of the content: all are but the quotes around it, and one of each two that stand for one
abbrev pub is_content : Place → ℕ → Bool
is_content Front b = not (b == 34)
is_content Plain b = true
is_content Quoted b = not (b == 34)
is_content AfterQuote b = true

-- what this byte gives to the content
abbrev pub kept : Place → ℕ → List ℕ
kept place b = if is_content place b then b ∷ [] else []

-- the content of the rest of a field of CSV, from this place on
unfoldable pub content_from : Place → List ℕ → List ℕ
content_from place [] = []
content_from place (b ∷ bs) = kept place b ++ content_from (csv_place place b) bs

-- that of a field of CSV, of which a carriage return at its end is no part
abbrev pub csv_content : List ℕ → List ℕ
csv_content text = content_from Front (take (core_length text) text)

-- the name that a field of the header gives: its content in CSV, else the field without the blanks around it
abbrev pub name_in : Delimiter → List ℕ → List ℕ
name_in Blanks text = (cut_field text).number
name_in (Byte delimiter) text = (cut_field text).number
name_in (Csv delimiter) text = csv_content text

-- the number, from 1 on, of the first column that a record of the header gives this name
abbrev pub column_named : Delimiter → List ℕ → List ℕ → Option ℕ
column_named delimiter name header = column_from 1 name (map (λ field. name_in delimiter field.text) (fields_in delimiter header))
