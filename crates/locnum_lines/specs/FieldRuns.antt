-- What is written for the fields of a record.
use Rattle.std.specs.Prelude.{ℕ, suc, true, false, nat_lt, List, [], ◌∷◌, ◌++◌, drop, length, take, Option, Some, None, option_map}
use Rattle.std.specs.Prelude.{Result, Ok, Err, if◌then◌else◌}
use Rattle.writeable.specs.Events.{Event, text_of}
use Rattle.decimal_lines.specs.declared.single_text.TextError.{TextError}
use Rattle.number_forms.specs.Forms.{FormData, form_events}
use Rattle.locnum_lines.specs.Csv.{as_field, content_from, core_length, is_in_quotes}
use Rattle.locnum_lines.specs.Fields.{Cut, Field, cut_field, field_length}
use Rattle.locnum_lines.specs.Notes.{note, position_text}
use Rattle.locnum_lines.specs.Padding.{padded}
use Rattle.locnum_lines.specs.Ran.{Ran, counts, joined_runs, then_runs, writes}
use Rattle.locnum_lines.specs.Settings.{SettingsData, is_chosen}
use Rattle.locnum_lines.specs.Stage.{Stage, fields_of}
use Rattle.locnum_lines.specs.Widths.{padding_width, width_by}
use Rattle.locnum_lines.specs.declared.cutting.FieldState.TheVariants.{Front}
use Rattle.locnum_lines.specs.declared.padding.Width.{Width}
use Rattle.locnum_lines.specs.declared.settings.Delimiter.{Delimiter}
use Rattle.locnum_lines.specs.declared.settings.Delimiter.TheVariants.{Blanks, Byte, Csv}
use Rattle.locnum_lines.specs.declared.settings.Refusals.{Refusals}
use Rattle.locnum_lines.specs.declared.settings.Refusals.TheVariants.{Abort, Fail, Warn, Ignore}

-- what is written in the place of a text that is rejected, and the note of it, which is left out where texts are ignored; or
-- the run stops in front of it
abbrev pub refused_ran : Refusals → List ℕ → List ℕ → Ran
refused_ran Abort bytes notes = record { output = []; notes = notes; is_refused = true; is_stopped = true; most_fields = 0; holding = [] }
refused_ran Fail bytes notes = record { output = bytes; notes = notes; is_refused = true; is_stopped = false; most_fields = 0; holding = [] }
refused_ran Warn bytes notes = record { output = bytes; notes = notes; is_refused = true; is_stopped = false; most_fields = 0; holding = [] }
refused_ran Ignore bytes notes = record { output = bytes; notes = []; is_refused = true; is_stopped = false; most_fields = 0; holding = [] }

-- the blanks in front of a number that is shown: none where it has columns of its own
abbrev pub blanks_kept : Option Width → List ℕ → List ℕ
blanks_kept None before = before
blanks_kept (Some width) before = []

-- a text that holds the delimiter, which would end a field within it; nothing else, as blanks stand in no number, and CSV
-- has quotes
abbrev pub held_by : Delimiter → List ℕ → List ℕ
held_by Blanks text = []
held_by (Byte delimiter) text = if nat_lt (field_length (Byte delimiter) Front text) (length text) then text else []
held_by (Csv delimiter) text = []

-- bytes that are written with this number
abbrev pub writes_number : Delimiter → List ℕ → List ℕ → Ran
writes_number delimiter number bytes = record (writes bytes) { holding = held_by delimiter number }

-- a number in a field by what it is shown as, in its columns, between the blanks in front of it and what is behind it; one that is
-- rejected stays behind its blanks
abbrev pub shown_ran : SettingsData → Option Width → List ℕ → Cut → Result (List Event) TextError → Ran
shown_ran settings width position field (Ok events) =
    writes_number settings.delimiter (text_of events)
    ((blanks_kept width field.before ++ padded width (text_of events)) ++ field.behind)
shown_ran settings width position field (Err error) =
    joined_runs (writes field.before) (refused_ran settings.refusals (field.number ++ field.behind) (note position field.number error))

-- a field that is chosen, of this number
unfoldable pub chosen_ran : SettingsData → FormData → Stage → ℕ → Cut → Ran
chosen_ran settings form stage index field =
    shown_ran settings (width_by settings.delimiter settings.padding index field.before field.number)
    (position_text settings.source stage.lines stage.names index) field (form_events form field.number)

-- a field of CSV by what the number of its content is shown as: that is written as a field, in front of a carriage return at
-- the field's end; where it is rejected, the field goes through as its own bytes
abbrev pub csv_shown_ran : SettingsData → Option Width → List ℕ → ℕ → List ℕ → Cut → Result (List Event) TextError → Ran
csv_shown_ran settings width position delimiter text field (Ok events) =
    writes (as_field delimiter settings.end (is_in_quotes text)
    ((blanks_kept width field.before ++ padded width (text_of events)) ++ field.behind)
    ++ drop (core_length text) text)
csv_shown_ran settings width position delimiter text field (Err error) = refused_ran settings.refusals text (note position field.number error)

-- a field of CSV that is chosen, of this number, by the parts of its content
unfoldable pub csv_cut_ran : SettingsData → FormData → Stage → ℕ → ℕ → List ℕ → Cut → Ran
csv_cut_ran settings form stage index delimiter text field =
    csv_shown_ran settings (option_map padding_width settings.padding) (position_text settings.source stage.lines stage.names index) delimiter
    text field (form_events form field.number)

-- a field that is chosen, of this number, by what ends it
abbrev pub picked_ran : SettingsData → FormData → Stage → ℕ → Delimiter → List ℕ → Ran
picked_ran settings form stage index Blanks text = chosen_ran settings form stage index (cut_field text)
picked_ran settings form stage index (Byte delimiter) text = chosen_ran settings form stage index (cut_field text)
picked_ran settings form stage index (Csv delimiter) text =
    csv_cut_ran settings form stage index delimiter text (cut_field (content_from Front (take (core_length text) text)))

-- a field of this number, which is counted: its number is written, or it goes through as it is
unfoldable pub field_ran : SettingsData → FormData → Stage → ℕ → List ℕ → Ran
field_ran settings form stage index text =
    joined_runs (counts index)
    (if is_chosen (fields_of settings stage) index then picked_ran settings form stage index settings.delimiter text else writes text)

-- fields from this number on, each with the byte behind it
unfoldable pub fields_ran : SettingsData → FormData → Stage → ℕ → List Field → Ran
fields_ran settings form stage index [] = writes []
fields_ran settings form stage index (field ∷ fields) =
    then_runs (field_ran settings form stage index field.text)
    (then_runs (writes field.behind) (fields_ran settings form stage (suc index) fields))
