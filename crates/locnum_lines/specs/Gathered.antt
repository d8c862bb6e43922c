-- What was gathered of an input's output and notes.
use Rattle.std.specs.Prelude.{◌≡◌, ℕ, suc, max, ◌<◌, ◌≤◌, Bool, false, ◌||◌, List, ◌++◌, length, Option}
use Rattle.std.specs.Prelude.{Some, None, IfSome, option_map}
use Rattle.number_forms.specs.Forms.{FormData}
use Rattle.locnum_lines.specs.FieldRuns.{fields_ran}
use Rattle.locnum_lines.specs.Fields.{fields_from}
use Rattle.locnum_lines.specs.Ran.{Ran, first_of, joined_runs}
use Rattle.locnum_lines.specs.RecordRuns.{records_ran}
use Rattle.locnum_lines.specs.Records.{IsPart, records_of}
use Rattle.locnum_lines.specs.Settings.{SettingsData}
use Rattle.locnum_lines.specs.Stage.{Stage, stage_behind}
use Rattle.locnum_lines.specs.declared.cutting.FieldState.TheVariants.{Front}

-- output and notes, whether a number was rejected, whether the run stopped, the greatest number of a field, the first written
-- number that holds the delimiter, and how far the run is
pub record GatheredData : Type 0 where
  pub output : List ℕ
  pub notes : List ℕ
  pub is_refused : Bool
  pub is_stopped : Bool
  pub most_fields : ℕ
  pub holding : List ℕ
  pub stage : Stage

-- one grows to the other by what a part of a run writes, behind which the run is so far
pub record Adds (old new : GatheredData) (ran : Ran) (after : Stage) : Type 0 where
  pub output : new.output ≡ old.output ++ ran.output
  pub notes : new.notes ≡ old.notes ++ ran.notes
  pub is_refused : new.is_refused ≡ (old.is_refused || ran.is_refused)
  pub is_stopped : new.is_stopped ≡ ran.is_stopped
  pub most_fields : new.most_fields ≡ max old.most_fields ran.most_fields
  pub holding : new.holding ≡ first_of old.holding ran.holding
  pub stage : new.is_stopped ≡ false → new.stage ≡ after

-- all that is run is this part, or this part, which doesn't stop, and then the rest
abbrev pub IsFirstOf : Ran → Ran → Option Ran → Type 0
IsFirstOf ran all None = all ≡ ran
IsFirstOf ran all (Some rest) = (ran.is_stopped ≡ false) × (all ≡ joined_runs ran rest)

-- from this field on of a record some fields were run, and counted; the others are those of the rest, if there is one
pub record GoesOn (settings : SettingsData) (form : FormData) (index : ℕ) (old new : GatheredData) (line : List ℕ)
    (rest : Option (List ℕ)) : Type 0 where
  pub ran : Ran
  pub adds : Adds old new ran old.stage
  pub counted : index ≤ ran.most_fields
  pub is_first : IsFirstOf ran (fields_ran settings form old.stage index (fields_from settings.delimiter Front line))
      (option_map (λ bytes. fields_ran settings form old.stage (suc index) (fields_from settings.delimiter Front bytes)) rest)
  pub shorter : IfSome rest (λ bytes. length bytes < length line)

-- the bytes that were held back, with the new ones behind them, are whole records, whatever comes behind them, which were
-- run, and what is left; unless the run stopped, that is held back now
pub record Feeds (settings : SettingsData) (form : FormData) (old new : GatheredData) (held chunk held' : List ℕ) : Type 0 where
  pub records : List (List ℕ)
  pub whole : List ℕ
  pub left : List ℕ
  pub are_whole : (rest : List ℕ) →
      records_of settings.delimiter settings.end (whole ++ rest) ≡ records ++ records_of settings.delimiter settings.end rest
  pub parts : held ++ chunk ≡ whole ++ left
  pub adds : Adds old new (records_ran settings form old.stage records) (stage_behind settings old.stage records)
  pub is_held : new.is_stopped ≡ false → held' ≡ left
  pub is_part : new.is_stopped ≡ false → IsPart settings.delimiter settings.end Front held'
