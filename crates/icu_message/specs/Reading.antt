-- The pieces of a text, or its first fault.
use Rattle.std.specs.Prelude.{ℕ, ◌+◌, List, [], ◌∷◌, ◌++◌, length, nat_le, Option, Some, None, Result, Ok, Err, if◌then◌else◌}
use Rattle.icu_message.specs.declared.error.ParseError.{ParseError}
use Rattle.icu_message.specs.declared.error.ParseError.TheVariants.{TooLong}
use Rattle.icu_message.specs.declared.piece.OpenKey.{OpenKey}
use Rattle.icu_message.specs.declared.piece.BegunChoice.{BegunChoice}
use Rattle.icu_message.specs.declared.piece.ChoiceKind.TheVariants.{Plural}
use Rattle.icu_message.specs.declared.piece.Piece.{Piece}
use Rattle.icu_message.specs.declared.piece.Piece.TheVariants.{Formatted, Choice, Arm, EndChoice}
use Rattle.icu_message.specs.declared.stepping.State.{State}
use Rattle.icu_message.specs.declared.stepping.Step.{Step}
use Rattle.icu_message.specs.declared.stepping.Here.{Here}
use Rattle.icu_message.specs.Keys.{keys_to, counted_at}
use Rattle.icu_message.specs.Stepping.{start, step, end_fault}

-- what was read so far: pieces, the keys of the open choices, and all choices that were begun
pub record Drafted : Type 0 where
  pub pieces : List Piece
  pub keys : List OpenKey
  pub choices : List BegunChoice

-- nothing is read
abbrev pub empty_draft : Drafted
empty_draft = record { pieces = []; keys = []; choices = [] }

-- the keys behind a piece, within so many choices
abbrev pub keys_behind : ℕ → Piece → List OpenKey → List OpenKey
keys_behind level (Arm w) keys = keys ++ record { level = level; word = w } ∷ []
keys_behind level EndChoice keys = keys_to level keys
keys_behind level _ keys = keys

-- a level that no choice has
abbrev pub no_level : ℕ
no_level = 9

-- the choices behind a piece, within so many choices; a formatted place is as a choice by a number that is never open
abbrev pub choices_behind : ℕ → Piece → List BegunChoice → List BegunChoice
choices_behind level (Formatted w k) choices = choices ++ record { level = no_level; kind = Plural; name = w } ∷ []
choices_behind level (Choice k w) choices = choices ++ record { level = level; kind = k; name = w } ∷ []
choices_behind level _ choices = choices

-- a piece more
abbrev pub with_added : ℕ → Option Piece → Drafted → Drafted
with_added level None d = d
with_added level (Some p) d = record
    { pieces = d.pieces ++ p ∷ []; keys = keys_behind level p d.keys; choices = choices_behind level p d.choices }

-- what a step leaves of what is read so far
abbrev pub with_step : Step → Drafted → Drafted
with_step t d = with_added t.state.level t.added d

-- the pieces, or the fault of the end
abbrev pub ended : Option ParseError → Drafted → Result (List Piece) ParseError
ended None d = Ok d.pieces
ended (Some fault) d = Err fault

-- the first byte, or 0 at the end
abbrev pub first : List ℕ → ℕ
first [] = 0
first (b ∷ bs) = b

-- a byte where it is read, before others
abbrev pub here : State → Drafted → ℕ → ℕ → List ℕ → Here
here s d at b bs = record { at = at; byte = b; next = first bs; counted = counted_at s.level d.choices }

-- the fault of the end, which ends a word as white space does
abbrev pub fault_of_end : List ℕ → State → Drafted → ℕ → Option ParseError
fault_of_end text s d at = end_fault text d.keys d.choices s (here s d at 32 [])

-- the pieces of what was read and of the bytes that are left, the first of them at a place; or their first fault
unfoldable pub reading_from : List ℕ → State → Drafted → ℕ → List ℕ → Result (List Piece) ParseError
reading_from text s d at [] = ended (fault_of_end text s d at) d
reading_from text s d at (b ∷ bs) = elim (step text d.keys d.choices s (here s d at b bs)) [
  | Err fault ↦ Err fault
  | Ok t ↦ reading_from text t.state (with_step t d) (at + 1) bs
]

-- the longest text of a message, in bytes
abbrev pub longest : ℕ
longest = 65535

-- the pieces of a text, or its first fault
abbrev pub pieces_of : List ℕ → Result (List Piece) ParseError
pieces_of text = if nat_le (length text) longest then reading_from text start empty_draft 0 text else Err (TooLong longest)

-- a message: its text and its pieces
pub record MessageText : Type 0 where
  pub text : List ℕ
  pub pieces : List Piece
