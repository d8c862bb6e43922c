-- Records of which two fields become one: a range stands in the field of the start, and the field of the end is left out.
use Rattle.std.specs.Prelude.{ℕ, suc, ◌==◌, nat_lt, List, [], ◌∷◌, ◌++◌, drop, take, Option, Some, None, if◌then◌else◌}
use Rattle.locnum_lines.specs.Csv.{core_length}
use Rattle.locnum_lines.specs.Fields.{Field}
use Rattle.locnum_lines.specs.Settings.{SettingsData}
use Rattle.locnum_ranges.specs.Fields.{fields_in}
use Rattle.locnum_ranges.specs.Placed.{in_field}
use Rattle.locnum_ranges.specs.declared.writing.RangeFields.{RangeFields}

-- a field of this number: the range stands in the field of the start, if there is one
abbrev pub field_written : SettingsData → ℕ → Option (List ℕ) → ℕ → List ℕ → List ℕ
field_written settings start None index field = field
field_written settings start (Some range) index field =
    if index == start then in_field settings index settings.delimiter field range else field

-- a field of this number behind the byte that ends the last field that stays; nothing of the field of the end
abbrev pub joined_field : SettingsData → RangeFields → Option (List ℕ) → ℕ → List ℕ → List ℕ → List ℕ
joined_field settings fields range index before field =
    if index == fields.end then [] else before ++ field_written settings fields.start range index field

-- the byte that ends the last field that stays, behind a field of this number that this byte ends
abbrev pub behind_field : ℕ → ℕ → List ℕ → List ℕ → List ℕ
behind_field end index before behind = if index == end then before else behind

-- the fields from this number on, behind the byte that ends the last field that stays: each but the field of the end, and between
-- each two the byte that ends the first of them
unfoldable pub fields_written : SettingsData → RangeFields → Option (List ℕ) → ℕ → List ℕ → List Field → List ℕ
fields_written settings fields range index before [] = []
fields_written settings fields range index before (field ∷ rest) =
    joined_field settings fields range index before field.text
    ++ fields_written settings fields range (suc index) (behind_field fields.end index before field.behind) rest

-- a record: its fields, and the carriage return at its end, if it has one
abbrev pub record_written : SettingsData → RangeFields → Option (List ℕ) → List ℕ → List ℕ
record_written settings fields range line =
    fields_written settings fields range 1 [] (fields_in settings.delimiter (take (core_length line) line))
    ++ drop (core_length line) line

-- the fields from this number on that stand in front of the field of number `first`, each with the byte that ends it
unfoldable pub front_written : ℕ → ℕ → List Field → List ℕ
front_written first index [] = []
front_written first index (field ∷ rest) =
    if nat_lt index first then (field.text ++ field.behind) ++ front_written first (suc index) rest else []
