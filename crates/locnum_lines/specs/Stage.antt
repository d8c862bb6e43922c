-- How far a run is.
use Rattle.std.specs.Prelude.{ℕ, ◌+◌, ◌-◌, ◌==◌, List, [], ◌∷◌, ◌++◌, map, take, Option, Some, None, if◌then◌else◌}
use Rattle.locnum_lines.specs.Csv.{content_from, core_length}
use Rattle.locnum_lines.specs.Fields.{Field, cut_field, fields_from}
use Rattle.locnum_lines.specs.Named.{columns_named}
use Rattle.locnum_lines.specs.Records.{lines_in}
use Rattle.locnum_lines.specs.Settings.{SettingsData}
use Rattle.locnum_lines.specs.declared.cutting.FieldState.TheVariants.{Front}
use Rattle.locnum_lines.specs.declared.settings.Delimiter.{Delimiter}
use Rattle.locnum_lines.specs.declared.settings.FieldRange.{FieldRange}
use Rattle.locnum_lines.specs.declared.settings.Delimiter.TheVariants.{Blanks, Byte, Csv}

-- how many records of the header are left, how many lines were run, the names of the columns, and the columns that were
-- asked for by name
pub record Stage : Type 0 where
  pub left : ℕ
  pub lines : ℕ
  pub names : List (List ℕ)
  pub columns : List FieldRange

-- in front of an input
abbrev pub start_of : SettingsData → Stage
start_of settings = record { left = settings.header; lines = 0; names = []; columns = [] }

-- the name that a field of the header gives: its content in CSV, else the field without the blanks around it
abbrev pub name_in : Delimiter → List ℕ → List ℕ
name_in Blanks text = (cut_field text).number
name_in (Byte delimiter) text = (cut_field text).number
name_in (Csv delimiter) text = content_from Front (take (core_length text) text)

-- the names that fields of the header give
abbrev pub names_of : Delimiter → List Field → List (List ℕ)
names_of delimiter fields = map (λ field. name_in delimiter field.text) fields

-- those of what is left of a record behind some fields, if anything is
abbrev pub names_of_rest : Delimiter → Option (List ℕ) → List (List ℕ)
names_of_rest delimiter None = []
names_of_rest delimiter (Some bytes) = names_of delimiter (fields_from delimiter Front bytes)

-- the names that a record of the header gives
unfoldable pub names_in : Delimiter → List ℕ → List (List ℕ)
names_in delimiter line = names_of delimiter (fields_from delimiter Front line)

-- behind a record, whose lines aren't counted yet: the names are those of the last record of the header
abbrev pub header_passed : SettingsData → Stage → List ℕ → Stage
header_passed settings stage line = record {
  left = stage.left - 1;
  lines = stage.lines;
  names = if stage.left == 1 then names_in settings.delimiter line else stage.names;
  columns = if stage.left == 1 then stage.columns ++ columns_named (names_in settings.delimiter line) settings.names else stage.columns;
}

-- the fields that are numbers: the columns that were asked for by name, or else the fields of the ranges
abbrev pub fields_by : List (List ℕ) → List FieldRange → List FieldRange → List FieldRange
fields_by [] fields columns = fields
fields_by (name ∷ names) fields columns = columns

abbrev pub fields_of : SettingsData → Stage → List FieldRange
fields_of settings stage = fields_by settings.names settings.fields stage.columns

-- behind a record
abbrev pub stage_after : SettingsData → Stage → List ℕ → Stage
stage_after settings stage line = record (header_passed settings stage line) {
  lines = stage.lines + lines_in settings.end line;
}

-- behind records
unfoldable pub stage_behind : SettingsData → Stage → List (List ℕ) → Stage
stage_behind settings stage [] = stage
stage_behind settings stage (line ∷ rest) = stage_behind settings (stage_after settings stage line) rest
