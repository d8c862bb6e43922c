-- What calls that add values to arguments leave, by their status.
use Rattle.std.specs.Prelude.{◌≡◌, ℕ, ◌⊎◌, List, Option, Some, None}
use Rattle.decimal_lines.specs.SingleText.{IsRefusal}
use Rattle.decimal_lines.specs.declared.single_text.TextError.{TextError}
use Rattle.kept_messages.specs.Arguments.{GivenData, with_text}
use Rattle.kept_messages.specs.Arguments as adds
use Rattle.number_forms.specs.Forms.{FormData, form_events}
use Rattle.talmuiga_c.specs.Endings.{done, out_of_memory}
use Rattle.talmuiga_c.specs.Kept.{text_status}
use Rattle.talmuiga_c.specs.MessageStatuses.{no_form, not_utf8}
use Rattle.talmuiga_c.specs.declared.kept.Kept.{Kept}
use Rattle.talmuiga_c.specs.declared.kept.Kept.TheVariants.{ByWords, BySkeleton, WithRanges}

-- the form of a formatter, if it was opened by a skeleton
abbrev pub kept_form : Kept → Option FormData
kept_form (ByWords mode) = None
kept_form (BySkeleton form) = Some form
kept_form (WithRanges form ranges) = Some form

-- nothing is added
abbrev pub AddsNothing : List GivenData → List GivenData → ℕ → ℕ → Type 0
AddsNothing old new status why = (new ≡ old) × (status ≡ why)

-- a name and a text, if both are UTF-8; out of memory may come in place of that
abbrev pub AddsText : Option (List ℕ) → Option (List ℕ) → List GivenData → List GivenData → ℕ → Type 0
AddsText (Some name) (Some text) old new status =
    ((new ≡ with_text old name text) × (status ≡ done)) ⊎ AddsNothing old new status out_of_memory
AddsText (Some name) None old new status = AddsNothing old new status not_utf8
AddsText None text old new status = AddsNothing old new status not_utf8

-- a form has no number for a text, and the status says why
pub record ShowsNothing (form : FormData) (text : List ℕ) (old new : List GivenData) (status : ℕ) : Type 0 where
  pub error : TextError
  pub refused : IsRefusal (form_events form text) error
  pub same : new ≡ old
  pub status_is : status ≡ text_status error

-- a name and a number as the formatter's form shows it: the name is judged first, then the formatter, and then the number
abbrev pub AddsNumber : Option (List ℕ) → Option FormData → List ℕ → List GivenData → List GivenData → ℕ → Type 0
AddsNumber None form text old new status = AddsNothing old new status not_utf8
AddsNumber (Some name) None text old new status = AddsNothing old new status no_form
AddsNumber (Some name) (Some form) text old new status =
    (adds.AddsNumber form text name old new × (status ≡ done)) ⊎ ShowsNothing form text old new status

-- the same for the places of a skeleton
abbrev pub AddsForm : Option (List ℕ) → Option (List ℕ) → Option FormData → List ℕ → List GivenData → List GivenData → ℕ → Type 0
AddsForm None skeleton form text old new status = AddsNothing old new status not_utf8
AddsForm (Some name) None form text old new status = AddsNothing old new status not_utf8
AddsForm (Some name) (Some skeleton) None text old new status = AddsNothing old new status no_form
AddsForm (Some name) (Some skeleton) (Some form) text old new status =
    (adds.AddsForm skeleton form text name old new × (status ≡ done)) ⊎ ShowsNothing form text old new status
