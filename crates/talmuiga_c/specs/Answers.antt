-- What a formatter that is kept answers to a text.
use Rattle.std.specs.Prelude.{ℕ, List, Result, Ok, Err, codes}
use Rattle.writeable.specs.Events.{Event, text_of}
use Rattle.decimal_lines.specs.LineResults.{text_result}
use Rattle.decimal_lines.specs.SingleText.{events_of}
use Rattle.decimal_lines.specs.declared.single_text.TextError.{TextError}
use Rattle.decimal_lines.specs.declared.single_text.TextError.TheVariants as refusal
use Rattle.number_forms.specs.Forms.{FormData, form_events}
use Rattle.talmuiga_c.specs.declared.kept.Kept.{Kept}
use Rattle.talmuiga_c.specs.declared.kept.Kept.TheVariants.{ByWords, BySkeleton, WithRanges}

-- an error line, without its line feed; no text has `OutOfMemory` in the place of its events
abbrev pub error_line : TextError → List ℕ
error_line refusal.NotDecimal = codes "error: not a decimal"
error_line refusal.TooManyDigits = codes "error: too many digits"
error_line refusal.Overflow = codes "error: overflow"
error_line refusal.OutOfMemory = codes "error: out of memory"

-- the answer in a line, by what is shown
abbrev pub answer_of : Result (List Event) TextError → List ℕ
answer_of (Ok events) = text_of events
answer_of (Err error) = error_line error

-- the answer of a form to a text
unfoldable pub form_result : FormData → List ℕ → List ℕ
form_result form text = answer_of (form_events form text)

-- what a formatter shows for a text: what its mode or its form shows
abbrev pub kept_events : Kept → List ℕ → Result (List Event) TextError
kept_events (ByWords mode) text = events_of mode text
kept_events (BySkeleton form) text = form_events form text
kept_events (WithRanges form ranges) text = form_events form text

-- the answer of a formatter to the text of a line
abbrev pub kept_result : Kept → List ℕ → List ℕ
kept_result (ByWords mode) = text_result mode
kept_result (BySkeleton form) = form_result form
kept_result (WithRanges form ranges) = form_result form
