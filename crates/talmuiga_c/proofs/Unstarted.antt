-- Calls that end before a line is formatted.
use Rattle.std.proofs.Common.{◌≡◌, ℕ, Bool, true, false, List, [], Ok, Err, refl, sym, inl, inr, arith}
use Rattle.std.specs.Prelude.{Option, Result, if◌then◌else◌}
use Rattle.std.specs.Str.{IsUtf8, is_utf8}
use Rattle.std.proofs.lemmas.Str.{IsUtf8-from_is_utf8}
use Rattle.decimal_lines.specs.LineResults.{text_result}
use Rattle.decimal_lines.specs.ModeOfTables.{Stops, mode_of}
use Rattle.decimal_lines.specs.Words.{WordsData}
use Rattle.decimal_lines.specs.declared.mode.Mode.{Mode}
use Rattle.decimal_lines.specs.declared.mode.StartError.{StartError}
use Rattle.decimal_lines.specs.declared.mode.StartError.TheVariants as start
use Rattle.decimal_lines.proofs.Parts.{output_of-nothing}
use Rattle.talmuiga_c.specs.Asked.{mode_asked}
use Rattle.talmuiga_c.specs.Endings.{EndsIn, IsFormatted, out_of_memory, status_of}
use Rattle.talmuiga_c.specs.Handle.{empty}
use Rattle.talmuiga_c.specs.declared.held.Held.{Held}
use Rattle.talmuiga_c.specs.Kept.{OpensIn}
use Rattle.talmuiga_c.proofs.Texts.{is_no_text}

-- out of memory before the first line
pub unstarted : (mode : Mode) (input old : List ℕ) → IsFormatted mode input old old 0 out_of_memory
unstarted mode input old = record {
  whole = λ e. absurd (omega arith);
  stopped = λ _. record {
    whole = [];
    rest = input;
    are_whole = inl refl;
    parts = refl;
    filled = rw (output_of-nothing (text_result mode)) (record { bytes = refl; count = refl; within = omega arith });
  };
  too_small = λ e. absurd (omega arith);
  full = λ e. absurd (omega arith);
  memory = λ e. inl refl;
  known = inr (inl refl);
}

module _ (words : WordsData) (tables : List ℕ) where
  -- a mode that is made is the one that is asked for
  pub asked-made : (mode : Mode) → (IsUtf8 tables → mode_of words tables ≡ Ok mode) → (¬ (IsUtf8 tables) → Ok mode ≡ Err start.Tables)
      → mode_asked words tables ≡ Ok mode
  unfolding mode_asked
  asked-made mode text no_text = go (is_utf8 tables) refl
    where
      go : (b : Bool) → is_utf8 tables ≡ b → (if b then mode_of words tables else Err start.Tables) ≡ Ok mode
      go true e = text (IsUtf8-from_is_utf8 tables e)
      go false e = sym (no_text (is_no_text tables e))

  -- and an error, unless it is because memory ran out
  asked-refused : (error : StartError) → (IsUtf8 tables → mode_of words tables ≡ Err error) → (¬ (IsUtf8 tables)
      → ◌≡◌ {A = Result Mode StartError} (Err error) (Err start.Tables)) → mode_asked words tables ≡ Err error
  unfolding mode_asked
  asked-refused error text no_text = go (is_utf8 tables) refl
    where
      go : (b : Bool) → is_utf8 tables ≡ b → (if b then mode_of words tables else Err start.Tables) ≡ Err error
      go true e = text (IsUtf8-from_is_utf8 tables e)
      go false e = sym (no_text (is_no_text tables e))

  module _ (input old : List ℕ) where
    without_memory : (asked : Result Mode StartError) → EndsIn asked input old old 0 out_of_memory
    without_memory (Ok mode) = unstarted mode input old
    without_memory (Err error) = (record { same = refl; none = refl }, inr refl)

    -- so the call ends
    pub refused-ends : (error : StartError) → (IsUtf8 tables → Stops error (mode_of words tables)) → (¬ (IsUtf8 tables)
        → ◌≡◌ {A = Result Mode StartError} (Err error) (Err start.Tables))
        → EndsIn (mode_asked words tables) input old old 0 (status_of error)
    refused-ends start.Tables text no_text = rw (asked-refused start.Tables text no_text) (record { same = refl; none = refl }, inl refl)
    refused-ends start.NoData text no_text = rw (asked-refused start.NoData text no_text) (record { same = refl; none = refl }, inl refl)
    refused-ends start.OutOfMemory text no_text = without_memory (mode_asked words tables)

  module _ (held : Option (Option Held)) (is_empty : held ≡ empty) where
    unopened : (asked : Result Mode StartError) → OpensIn asked held out_of_memory
    unopened (Ok mode) = inr (is_empty, refl)
    unopened (Err error) = (is_empty, inr refl)

    -- and so a formatter stays closed
    pub refused-opens : (error : StartError) → (IsUtf8 tables → Stops error (mode_of words tables))
        → (¬ (IsUtf8 tables) → ◌≡◌ {A = Result Mode StartError} (Err error) (Err start.Tables))
        → OpensIn (mode_asked words tables) held (status_of error)
    refused-opens start.Tables text no_text = rw (asked-refused start.Tables text no_text) (is_empty, inl refl)
    refused-opens start.NoData text no_text = rw (asked-refused start.NoData text no_text) (is_empty, inl refl)
    refused-opens start.OutOfMemory text no_text = unopened (mode_asked words tables)
