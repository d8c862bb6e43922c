-- What a call from C leaves, by its status.
use Rattle.std.specs.Prelude.{◌≡◌, ℕ, ◌<◌, ◌⊎◌, List, length, Option, Some, None, Result, Ok, Err}
use Rattle.decimal_lines.specs.LineResults.{text_result}
use Rattle.decimal_lines.specs.Filled.{HasRoomLeft, HoldsAllThatFit, HoldsWholeLines, IsFilled}
use Rattle.decimal_lines.specs.Lines.{output_of}
use Rattle.decimal_lines.specs.Words.{WordsData}
use Rattle.decimal_lines.specs.declared.mode.Mode.{Mode}
use Rattle.decimal_lines.specs.declared.mode.StartError.{StartError}
use Rattle.decimal_lines.specs.declared.mode.StartError.TheVariants as start
use Rattle.talmuiga_c.specs.Asked.{mode_asked}

-- a status
abbrev pub done : ℕ
done = 0

abbrev pub out_of_memory : ℕ
out_of_memory = 1

abbrev pub words_refused : ℕ
words_refused = 2

abbrev pub tables_refused : ℕ
tables_refused = 3

abbrev pub no_data : ℕ
no_data = 4

abbrev pub output_too_small : ℕ
output_too_small = 5

-- that of a mode that isn't made
abbrev pub status_of : StartError → ℕ
status_of start.Tables = tables_refused
status_of start.NoData = no_data
status_of start.OutOfMemory = out_of_memory

-- Done, all of the output is there; else the output of whole lines at the input's beginning, because memory ran out, or since
-- the whole and the next line's is longer than there is room. Out of memory is reported before the first line, or where a line
-- and some room are left.
pub record IsFormatted (mode : Mode) (input old new : List ℕ) (written status : ℕ) : Type 0 where
  pub whole : status ≡ done → IsFilled old new (output_of (text_result mode) input) written
  pub stopped : ¬ (status ≡ done) → HoldsWholeLines (text_result mode) input old new written
  pub too_small : status ≡ output_too_small → length old < length (output_of (text_result mode) input)
  pub full : status ≡ output_too_small → HoldsAllThatFit (text_result mode) input old new written
  pub memory : status ≡ out_of_memory → (written ≡ 0) ⊎ HasRoomLeft (text_result mode) input old new written
  pub known : (status ≡ done) ⊎ ((status ≡ out_of_memory) ⊎ (status ≡ output_too_small))

-- nothing is written
pub record IsUntouched (old new : List ℕ) (written : ℕ) : Type 0 where
  pub same : new ≡ old
  pub none : written ≡ 0

-- by the mode that is asked for: it formats, or there is none; out of memory may come wherever there is none
abbrev pub EndsIn : Result Mode StartError → List ℕ → List ℕ → List ℕ → ℕ → ℕ → Type 0
EndsIn (Ok mode) input old new written status = IsFormatted mode input old new written status
EndsIn (Err error) input old new written status = IsUntouched old new written × ((status ≡ status_of error) ⊎ (status ≡ out_of_memory))

-- by the arguments; others are rejected, and nothing else comes in place of it
abbrev pub Ends : Option WordsData → List ℕ → List ℕ → List ℕ → List ℕ → ℕ → ℕ → Type 0
Ends None tables input old new written status = IsUntouched old new written × (status ≡ words_refused)
Ends (Some words) tables input old new written status = EndsIn (mode_asked words tables) input old new written status
