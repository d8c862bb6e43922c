-- What calls with a formatter leave, by their status.
use Rattle.std.specs.Prelude.{◌≡◌, ℕ, ◌<◌, ◌≤◌, ◌⊎◌, List, length, Option, Some, None, Result, Ok, Err, OnErr, OnOk}
use Rattle.decimal_lines.specs.SingleText.{HoldsEvents}
use Rattle.decimal_lines.specs.Progress.{WritesFirst, NextNeeds}
use Rattle.decimal_lines.specs.Words.{WordsData}
use Rattle.decimal_lines.specs.declared.filling.FillError.TheVariants.{TooSmall}
use Rattle.decimal_lines.specs.declared.progress.Progress.{Progress}
use Rattle.decimal_lines.specs.declared.single_text.TextError.{TextError}
use Rattle.decimal_lines.specs.declared.single_text.TextError.TheVariants as refusal
use Rattle.decimal_lines.specs.declared.mode.Mode.{Mode}
use Rattle.decimal_lines.specs.declared.mode.StartError.{StartError}
use Rattle.talmuiga_c.specs.Answers.{kept_events, kept_result}
use Rattle.talmuiga_c.specs.Asked.{mode_asked}
use Rattle.talmuiga_c.specs.Endings.{done, out_of_memory, output_too_small, status_of, words_refused}
use Rattle.talmuiga_c.specs.Handle.{empty, holding}
use Rattle.talmuiga_c.specs.declared.held.Held.{Held}
use Rattle.talmuiga_c.specs.declared.kept.Kept.{Kept}
use Rattle.talmuiga_c.specs.declared.kept.Kept.TheVariants.{ByWords}

-- a text isn't a decimal, has too many digits, or has no number to show that is within the limits
abbrev pub not_decimal : ℕ
not_decimal = 6

abbrev pub too_many_digits : ℕ
too_many_digits = 7

abbrev pub overflow : ℕ
overflow = 8

-- that of a text that isn't shown
abbrev pub text_status : TextError → ℕ
text_status refusal.NotDecimal = not_decimal
text_status refusal.TooManyDigits = too_many_digits
text_status refusal.Overflow = overflow
text_status refusal.OutOfMemory = out_of_memory

-- the formatter has the mode that is asked for, or none
abbrev pub OpensIn : Result Mode StartError → Option (Option Held) → ℕ → Type 0
OpensIn (Ok mode) held status = ((held ≡ holding (ByWords mode)) × (status ≡ done)) ⊎ ((held ≡ empty) × (status ≡ out_of_memory))
OpensIn (Err error) held status = (held ≡ empty) × ((status ≡ status_of error) ⊎ (status ≡ out_of_memory))

-- by the arguments; others are rejected, and nothing else comes in place of it
abbrev pub Opens : Option WordsData → List ℕ → Option (Option Held) → ℕ → Type 0
Opens None tables held status = (held ≡ empty) × (status ≡ words_refused)
Opens (Some words) tables held status = OpensIn (mode_asked words tables) held status

-- As many lines as fit are answered: what is written is the output of what is consumed. That is all of it, or a line is left, because
-- memory ran out, or since there is no room for its answer, whose length is returned.
pub record WritesSome (answer : List ℕ → List ℕ) (input old new : List ℕ) (progress : Progress) : Type 0 where
  pub holds : WritesFirst answer input old new progress.consumed progress.written
  pub ok : OnOk progress.outcome (progress.consumed ≡ length input)
  pub err : OnErr progress.outcome (progress.consumed < length input)
  pub too_small : progress.outcome ≡ Err TooSmall → NextNeeds answer input old progress.consumed progress.written progress.needed
  pub unneeded : (progress.outcome ≡ Err TooSmall) ⊎ (progress.needed ≡ 0)

-- How far an input is answered: what is written is the output of what is consumed. Done, that is all of it; else a line is
-- left, because memory ran out, or since there is no room for its answer, whose length is returned.
pub record IsWrittenSoFar (kept : Kept) (input old new : List ℕ) (consumed written needed status : ℕ) : Type 0 where
  pub holds : WritesFirst (kept_result kept) input old new consumed written
  pub whole : status ≡ done → consumed ≡ length input
  pub stopped : ¬ (status ≡ done) → consumed < length input
  pub too_small : status ≡ output_too_small → NextNeeds (kept_result kept) input old consumed written needed
  pub unneeded : ¬ (status ≡ output_too_small) → needed ≡ 0
  pub known : (status ≡ done) ⊎ ((status ≡ out_of_memory) ⊎ (status ≡ output_too_small))

-- a text is shown: its length is returned, and it is written where it has room
pub record IsWritten (kept : Kept) (text old new : List ℕ) (n status : ℕ) : Type 0 where
  pub holds : HoldsEvents (kept_events kept text) old new n
  pub fits : n ≤ length old → status ≡ done
  pub too_long : length old < n → status ≡ output_too_small

-- a text isn't shown; out of memory may come whatever there is to show
pub record IsRefused (kept : Kept) (text old new : List ℕ) (n status : ℕ) : Type 0 where
  pub same : new ≡ old
  pub none : n ≡ 0
  pub why : (status ≡ out_of_memory) ⊎ (error : TextError) × ((kept_events kept text ≡ Err error) × (status ≡ text_status error))

-- one text, shown or not
abbrev pub IsShown : Kept → List ℕ → List ℕ → List ℕ → ℕ → ℕ → Type 0
IsShown kept text old new n status = IsWritten kept text old new n status ⊎ IsRefused kept text old new n status

-- that of 0.2.0
abbrev pub version : ℕ
version = 200
