-- What is noted of a record that is searched for numbers.
use Rattle.std.proofs.Common.{◌≡◌, ℕ, ◌+◌, true, false, List, refl}
use Rattle.locnum_lines.specs.Finding.{line_noted, record_noted}
use Rattle.locnum_lines.specs.RecordRuns.{unended_ran}
use Rattle.locnum_lines.specs.Records.{is_open, last_begun}
use Rattle.locnum_lines.specs.Settings.{SettingsData}
use Rattle.locnum_lines.specs.Stage.{Stage}
use Rattle.locnum_lines.specs.declared.cutting.FieldState.TheVariants.{Front}

module _ (settings : SettingsData) (stage : Stage) (line : List ℕ) where
  -- of one whose quotes end
  pub noted-closed : is_open settings.delimiter line ≡ false → record_noted settings stage line ≡ line_noted settings stage stage.left line
  unfolding record_noted
  noted-closed closed = rw closed refl

  -- and of one whose quotes don't
  pub noted-open : is_open settings.delimiter line ≡ true → record_noted settings stage line
      ≡ unended_ran (last_begun settings.delimiter settings.end Front (stage.lines + 1) (stage.lines + 1) line)
  unfolding record_noted
  noted-open open' = rw open' refl
