-- Calls that end where a form is made, or isn't.
use Rattle.std.proofs.Common.{◌≡◌, ℕ, Bool, true, false, List, Ok, Err, refl, sym, inl, inr}
use Rattle.std.specs.Prelude.{Option, Result, if◌then◌else◌}
use Rattle.std.specs.Str.{IsUtf8, is_utf8}
use Rattle.std.proofs.lemmas.Str.{IsUtf8-from_is_utf8}
use Rattle.number_formatters.specs.Settings.{FormSettings}
use Rattle.number_forms.specs.Forms.{FormData}
use Rattle.number_forms.specs.Making.{StopsForm, form_of}
use Rattle.number_forms.specs.declared.error.StartError.{StartError}
use Rattle.number_forms.specs.declared.error.StartError.TheVariants as start
use Rattle.talmuiga_c.specs.Endings.{out_of_memory}
use Rattle.talmuiga_c.specs.Handle.{empty}
use Rattle.talmuiga_c.specs.Skeletons.{OpensForm, form_asked, form_status}
use Rattle.talmuiga_c.specs.declared.held.Held.{Held}
use Rattle.talmuiga_c.proofs.Texts.{is_no_text}

module _ (settings : FormSettings) (tables : List ℕ) where
  -- what a call returns is what is asked for, in the text of the tables and where they are no text
  pub asked-is : (made : Result FormData StartError) → (IsUtf8 tables → form_of settings tables ≡ made)
      → (¬ (IsUtf8 tables) → made ≡ Err start.NotUtf8) → form_asked settings tables ≡ made
  unfolding form_asked
  asked-is made text no_text = go (is_utf8 tables) refl
    where
      go : (b : Bool) → is_utf8 tables ≡ b → (if b then form_of settings tables else Err start.NotUtf8) ≡ made
      go true e = text (IsUtf8-from_is_utf8 tables e)
      go false e = sym (no_text (is_no_text tables e))

  -- a form that is made is the one that is asked for
  pub form-made : (form : FormData) → (IsUtf8 tables → form_of settings tables ≡ Ok form)
      → (¬ (IsUtf8 tables) → ◌≡◌ {A = Result FormData StartError} (Ok form) (Err start.NotUtf8)) → form_asked settings tables ≡ Ok form
  form-made form text no_text = asked-is (Ok form) text no_text

  module _ (held : Option (Option Held)) (is_empty : held ≡ empty) where
    unopened : (asked : Result FormData StartError) → OpensForm asked held out_of_memory
    unopened (Ok form) = inr (is_empty, refl)
    unopened (Err error) = (is_empty, inr refl)

    -- without a form a formatter stays closed
    pub unformed-opens : (error : StartError) → (IsUtf8 tables → StopsForm error (form_of settings tables))
        → (¬ (IsUtf8 tables) → ◌≡◌ {A = Result FormData StartError} (Err error) (Err start.NotUtf8))
        → OpensForm (form_asked settings tables) held (form_status error)
    unformed-opens start.NotUtf8 text no_text = rw (asked-is (Err start.NotUtf8) text no_text) (is_empty, inl refl)
    unformed-opens (start.Refused e) text no_text = rw (asked-is (Err (start.Refused e)) text no_text) (is_empty, inl refl)
    unformed-opens start.NoData text no_text = rw (asked-is (Err start.NoData) text no_text) (is_empty, inl refl)
    unformed-opens start.OutOfMemory text no_text = unopened (form_asked settings tables)
