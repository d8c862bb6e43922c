-- What is left of a text while it is read: from a byte on, with this state and draft, the rest gives what the whole text gives.
use Rattle.std.proofs.Common.{◌≡◌, ℕ, ◌+◌, ◌<◌, List, [], ◌∷◌, length, drop, get_or, add-one, refl, sym, ap, ◌∙◌, arith}
use Rattle.std.specs.Prelude.{Result, Ok, Err}
use Rattle.std.proofs.Math.Seq.{drop-cons}
use Rattle.std.proofs.lemmas.Grind.{common_steps}
use Rattle.icu_message.specs.declared.error.ParseError.{ParseError}
use Rattle.icu_message.specs.declared.piece.Piece.{Piece}
use Rattle.icu_message.specs.declared.stepping.State.{State}
use Rattle.icu_message.specs.declared.stepping.Step.{Step}
use Rattle.icu_message.specs.Stepping.{start, step}
use Rattle.icu_message.specs.Reading.{Drafted, empty_draft, with_step, ended, fault_of_end, here, reading_from}

-- what is read behind a byte, unless it is a fault
abbrev pub read_on : List ℕ → Drafted → ℕ → List ℕ → Result Step ParseError → Result (List Piece) ParseError
read_on text d at bs r = elim r as (λ _. Result (List Piece) ParseError) [
  | Err fault ↦ Err fault
  | Ok t ↦ reading_from text t.state (with_step t d) (at + 1) bs
]

-- a byte is read by what its step answers
pub byte_is_read : (text : List ℕ) (s : State) (d : Drafted) (at b : ℕ) (bs : List ℕ) (r : Result Step ParseError)
    → step text d.keys d.choices s (here s d at b bs) ≡ r → reading_from text s d at (b ∷ bs) ≡ read_on text d at bs r
unfolding reading_from
byte_is_read text s d at b bs r h = ap (λ (r : Result Step ParseError). read_on text d at bs r) h

-- behind the last byte the message is complete, or the end is a fault
pub at_end : (text : List ℕ) (s : State) (d : Drafted) (at : ℕ) → reading_from text s d at [] ≡ ended (fault_of_end text s d at) d
unfolding reading_from
at_end text s d at = refl

-- what the whole text gives
abbrev pub whole : List ℕ → Result (List Piece) ParseError
whole text = reading_from text start empty_draft 0 text

-- what is left from a byte on makes the message, or has its fault
pub record Left (text : List ℕ) (at : ℕ) (s : State) (d : Drafted) : Type 0 where
  pub read : reading_from text s d at (drop at text) ≡ whole text

-- before the first byte the whole text is left
pub left-start : (text : List ℕ) (s : State) (d : Drafted) → s ≡ start → d ≡ empty_draft → Left text 0 s d
left-start text s d e f = rw (e, f) (record { read = refl })

-- a byte is read by what its step answers
pub left-byte : (text : List ℕ) (at : ℕ) (s : State) (d : Drafted) (r : Result Step ParseError) → Left text at s d
    → at < length text → step text d.keys d.choices s (here s d at (get_or text at 0) (drop (at + 1) text)) ≡ r
    → read_on text d at (drop (at + 1) text) r ≡ whole text
left-byte text at s d r h within is =
    let shifted : drop at text ≡ get_or text at 0 ∷ drop (at + 1) text = rw add-one (drop-cons text at 0 within) in
    sym (byte_is_read text s d at (get_or text at 0) (drop (at + 1) text) r is) ∙ ap (reading_from text s d at) (sym shifted) ∙ h.read

-- behind a byte that may stand there, less is left
pub left-next : {text : List ℕ} {at : ℕ} {s : State} {d : Drafted} (t : Step) → Left text at s d
    → at < length text → step text d.keys d.choices s (here s d at (get_or text at 0) (drop (at + 1) text)) ≡ Ok t
    → Left text (at + 1) t.state (with_step t d)
left-next {text} {at} {s} {d} t h within is = record { read = left-byte text at s d (Ok t) h within is }

-- a fault is that of the text
pub left-stop : {text : List ℕ} {at : ℕ} {s : State} {d : Drafted} (fault : ParseError) → Left text at s d
    → at < length text → step text d.keys d.choices s (here s d at (get_or text at 0) (drop (at + 1) text)) ≡ Err fault → whole text ≡ Err fault
left-stop {text} {at} {s} {d} fault h within is = sym (left-byte text at s d (Err fault) h within is)

-- behind the last byte the message is complete, or the end is a fault
pub left-end : {text : List ℕ} {at : ℕ} {s : State} {d : Drafted} → Left text at s d → at ≡ length text
    → whole text ≡ ended (fault_of_end text s d (length text)) d
left-end {text} {at} {s} {d} h e =
    let nothing : drop at text ≡ [] = grind (arith, common_steps) in
    sym h.read ∙ ap (reading_from text s d at) nothing ∙ at_end text s d at ∙ ap (λ n. ended (fault_of_end text s d n) d) e
