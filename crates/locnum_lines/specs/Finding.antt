-- The numbers of records, each with where it stands, for a caller that doesn't write lines.
use Rattle.std.specs.Prelude.{ℕ, zero, suc, ◌+◌, Bool, true, false, List, [], ◌∷◌, length, if◌then◌else◌}
use Rattle.locnum_lines.specs.Fields.{cut_field}
use Rattle.locnum_lines.specs.Notes.{position_text}
use Rattle.locnum_lines.specs.Ran.{Ran, counts}
use Rattle.locnum_lines.specs.RecordRuns.{named_ran, unended_ran}
use Rattle.locnum_lines.specs.Records.{is_open, last_begun}
use Rattle.locnum_lines.specs.Settings.{SettingsData, is_chosen}
use Rattle.locnum_lines.specs.Stage.{Stage, fields_of, names_in}
use Rattle.locnum_lines.specs.declared.cutting.FieldState.TheVariants.{Front}

-- where a number stands, as notes say it, and its text
pub record FoundData : Type 0 where
  pub position : List ℕ
  pub text : List ℕ

-- the number of a field, by what the field contains
abbrev pub found_at : SettingsData → Stage → ℕ → List ℕ → FoundData
found_at settings stage index content = record {
  position = position_text settings.source stage.lines stage.names index;
  text = (cut_field content).number;
}

-- a number in front of others, if its field is chosen
abbrev pub found_if : Bool → FoundData → List FoundData → List FoundData
found_if true number others = number ∷ others
found_if false number others = others

-- the numbers of the chosen fields, from this field on, by what each contains
unfoldable pub found_from : SettingsData → Stage → ℕ → List (List ℕ) → List FoundData
found_from settings stage index [] = []
found_from settings stage index (content ∷ contents) =
    found_if (is_chosen (fields_of settings stage) index) (found_at settings stage index content)
    (found_from settings stage (suc index) contents)

-- those of a record in front of which that many records of the header are left: the header has none
abbrev pub line_found : SettingsData → Stage → ℕ → List ℕ → List FoundData
line_found settings stage zero line = found_from settings stage 1 (names_in settings.delimiter line)
line_found settings stage (suc left) line = []

-- those of a record; none where the search ended before, or where quotes don't end
abbrev pub record_found : SettingsData → Bool → Stage → List ℕ → List FoundData
record_found settings true stage line = []
record_found settings false stage line = if is_open settings.delimiter line then [] else line_found settings stage stage.left line

-- what is reported of a record in front of which that many records of the header are left: how many fields it has, or, of the
-- header, a name that is no column's
abbrev pub line_noted : SettingsData → Stage → ℕ → List ℕ → Ran
line_noted settings stage zero line = counts (length (names_in settings.delimiter line))
line_noted settings stage (suc left) line = named_ran settings stage line

-- what is reported of a record, which ends the search where its quotes don't end
unfoldable pub record_noted : SettingsData → Stage → List ℕ → Ran
record_noted settings stage line =
    if is_open settings.delimiter line
    then unended_ran (last_begun settings.delimiter settings.end Front (stage.lines + 1) (stage.lines + 1) line)
    else line_noted settings stage stage.left line
