-- The answer of a form to a text, by what is shown of it.
use Rattle.std.proofs.Common.{◌≡◌, ℕ, List, ◌++◌, Ok, Err, refl, inl, inr}
use Rattle.std.specs.Prelude.{Result}
use Rattle.writeable.specs.Events.{Event}
use Rattle.decimal_lines.specs.SingleText.{AppendsEvents, IsRefusal}
use Rattle.decimal_lines.specs.declared.single_text.TextError.{TextError}
use Rattle.decimal_lines.specs.declared.single_text.TextError.TheVariants.{OutOfMemory}
use Rattle.number_forms.specs.Forms.{FormData, form_events}
use Rattle.talmuiga_c.specs.Answers.{answer_of, error_line, form_result}

module _ (form : FormData) (text : List ℕ) where
  -- a text that is shown
  pub answer-shown : (old new : List ℕ) → AppendsEvents (form_events form text) old new → new ≡ old ++ form_result form text
  unfolding form_result
  answer-shown old new shown = go (form_events form text) shown
    where
      go : (r : Result (List Event) TextError) → AppendsEvents r old new → new ≡ old ++ answer_of r
      go (Ok events) e = e
      go (Err error) e = absurd e

  -- a text that isn't
  pub answer-refused : (error : TextError) → ¬ (error ≡ OutOfMemory) → IsRefusal (form_events form text) error
      → form_result form text ≡ error_line error
  unfolding form_result
  answer-refused error has_memory (inl e) = absurd (has_memory e)
  answer-refused error has_memory (inr e) = rw e refl
