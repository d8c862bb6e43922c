-- What is written for the records of an input.
use Rattle.std.specs.Prelude.{ℕ, zero, suc, ◌+◌, ◌==◌, false, true, List, [], ◌∷◌, ◌++◌, Option, Some, None, take, drop}
use Rattle.std.specs.Prelude.{if◌then◌else◌}
use Rattle.number_forms.specs.Forms.{FormData}
use Rattle.locnum_lines.specs.FieldRuns.{fields_ran}
use Rattle.locnum_lines.specs.Fields.{fields_from}
use Rattle.locnum_lines.specs.Front.{mark_length}
use Rattle.locnum_lines.specs.Notes.{missing_note, unended_note}
use Rattle.locnum_lines.specs.Named.{missing_name}
use Rattle.locnum_lines.specs.Ran.{Ran, joined_runs, then_runs, writes}
use Rattle.locnum_lines.specs.Records.{in_front, is_open, last_begun, records_of}
use Rattle.locnum_lines.specs.Settings.{SettingsData}
use Rattle.locnum_lines.specs.Stage.{Stage, names_in, stage_after, start_of}
use Rattle.locnum_lines.specs.declared.cutting.FieldState.TheVariants.{Front}

-- the fields of a record, and the byte behind it
unfoldable pub line_ran : SettingsData → FormData → Stage → ℕ → List ℕ → Ran
line_ran settings form stage last line =
    then_runs (fields_ran settings form stage 1 (fields_from settings.delimiter Front line)) (writes (last ∷ []))

-- a name that is no column's is reported, and the run stops there
abbrev pub missing_ran : List (List ℕ) → Option (List ℕ) → Ran
missing_ran header None = writes []
missing_ran header (Some name) =
    record { output = []; notes = missing_note header name; is_refused = false; is_stopped = true; most_fields = 0; holding = [] }

-- behind a record of the header the columns are looked for that are asked for by name: behind its last one
abbrev pub named_ran : SettingsData → Stage → List ℕ → Ran
named_ran settings stage line =
    if stage.left == 1
    then missing_ran (names_in settings.delimiter line) (missing_name (names_in settings.delimiter line) settings.names)
    else writes []

-- a record and the byte behind it, in front of which that many records of the header are left: those of the header go through
abbrev pub line_by : SettingsData → FormData → Stage → ℕ → ℕ → List ℕ → Ran
line_by settings form stage last zero line = line_ran settings form stage last line
line_by settings form stage last (suc left) line = joined_runs (writes (line ++ last ∷ [])) (named_ran settings stage line)

-- a record and the byte behind it
unfoldable pub next_ran : SettingsData → FormData → Stage → ℕ → List ℕ → Ran
next_ran settings form stage last line = line_by settings form stage last stage.left line

-- quotes that don't end: that is reported, and the run stops there
abbrev pub unended_ran : ℕ → Ran
unended_ran line = record { output = []; notes = unended_note line; is_refused = false; is_stopped = true; most_fields = 0; holding = [] }

-- quotes that don't end, which begin in this line, behind what stands in front of their field
abbrev pub open_ran : SettingsData → FormData → Stage → ℕ → Option (List ℕ × ℕ) → Ran
open_ran settings form stage line None = unended_ran line
open_ran settings form stage line (Some (front, last)) = then_runs (next_ran settings form stage last front) (unended_ran line)

-- a record
unfoldable pub record_ran : SettingsData → FormData → Stage → List ℕ → Ran
record_ran settings form stage line =
    if is_open settings.delimiter line
    then open_ran settings form stage (last_begun settings.delimiter settings.end Front (stage.lines + 1) (stage.lines + 1) line)
    (in_front settings.delimiter Front line)
    else next_ran settings form stage settings.end line

-- records, one after the other
unfoldable pub records_ran : SettingsData → FormData → Stage → List (List ℕ) → Ran
records_ran settings form stage [] = writes []
records_ran settings form stage (line ∷ rest) =
    then_runs (record_ran settings form stage line) (records_ran settings form (stage_after settings stage line) rest)

-- an input behind its byte order mark
unfoldable pub rest_ran : SettingsData → FormData → List ℕ → Ran
rest_ran settings form input = records_ran settings form (start_of settings) (records_of settings.delimiter settings.end input)

-- an input behind that many bytes, which go through as they are
abbrev pub behind_mark : SettingsData → FormData → ℕ → List ℕ → Ran
behind_mark settings form n input = joined_runs (writes (take n input)) (rest_ran settings form (drop n input))

-- an input: its byte order mark goes through and belongs to no field
unfoldable pub input_ran : SettingsData → FormData → List ℕ → Ran
input_ran settings form input = behind_mark settings form (mark_length settings.source input) input
