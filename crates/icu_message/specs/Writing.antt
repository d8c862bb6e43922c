-- What is written of the pieces of a message.
use Rattle.std.specs.Prelude.{ℕ, ◌+◌, ◌-◌, Bool, false, ◌==◌, ◌&&◌, ◌||◌, List, [], ◌∷◌, ◌++◌, Option, Some, None}
use Rattle.std.specs.Prelude.{if◌then◌else◌}
use Rattle.icu_plurals.specs.Rules.{Rule, category_of}
use Rattle.icu_message.specs.declared.piece.Word.{Word}
use Rattle.icu_message.specs.declared.piece.ChoiceKind.{ChoiceKind}
use Rattle.icu_message.specs.declared.piece.ChoiceKind.TheVariants.{Plural, SelectOrdinal, Select}
use Rattle.icu_message.specs.declared.piece.Piece.{Piece}
use Rattle.icu_message.specs.declared.piece.Piece.TheVariants.{Byte, Special, Place, Formatted, Hash, Choice, Arm, EndArm, EndChoice}
use Rattle.icu_message.specs.declared.error.WriteError.{WriteError}
use Rattle.icu_message.specs.declared.error.WriteError.TheVariants.{MissingArgument, NotANumber, NotAText}
use Rattle.icu_message.specs.declared.argument.Argument.{Argument}
use Rattle.icu_message.specs.declared.argument.ArgumentValue.{ArgumentValue}
use Rattle.icu_message.specs.declared.argument.ArgumentValue.TheVariants.{Text, Number, Form}
use Rattle.icu_message.specs.declared.moving.Mode.{Mode}
use Rattle.icu_message.specs.declared.moving.Mode.TheVariants.{Writing, Seeking, Leaving}
use Rattle.icu_message.specs.Words.{word_in, same_bytes, other}
use Rattle.icu_message.specs.Names.{category_name}
use Rattle.icu_message.specs.Numbers.{Number as Shown, exact_key}
use Rattle.icu_message.specs.Arguments.{value_of, form_of, value_text}

-- what a message is written with: the text of the message, cardinal and ordinal rules, and arguments
pub record Filling : Type 0 where
  pub text : List ℕ
  pub cardinal : List Rule
  pub ordinal : List Rule
  pub given : List Argument

-- what is given for a name that stands in the text
abbrev pub named : Filling → Word → Option ArgumentValue
named f w = value_of f.given (word_in f.text w)

-- what is given for a name in the form of a skeleton that stands in the text
abbrev pub formed : Filling → Word → Word → Option ArgumentValue
formed f w k = form_of f.given (word_in f.text w) (word_in f.text k)

-- behind a choice's beginning, within so many choices more: it has an arm with this key
abbrev pub has_arm : List ℕ → List ℕ → ℕ → List Piece → Bool
has_arm text key level [] = false
has_arm text key level (Choice k w ∷ ps) = has_arm text key (level + 1) ps
has_arm text key level (Arm w ∷ ps) = (level == 0 && same_bytes (word_in text w) key) || has_arm text key level ps
has_arm text key level (EndChoice ∷ ps) = if level == 0 then false else has_arm text key (level - 1) ps
has_arm text key level (p ∷ ps) = has_arm text key level ps

-- a key, if there is an arm with it, else `other`
abbrev pub key_or_other : (List ℕ → Bool) → List ℕ → List ℕ
key_or_other has key = if has key then key else other

-- the key of the arm for a number: `=` and the whole number that it is, if there is such an arm; else the category that the rules
-- give the operands of what is shown, if there is such an arm; else `other`
abbrev pub key_for_number : (List ℕ → Bool) → List Rule → Shown → List ℕ
key_for_number has rules n =
    if has (exact_key n.whole) then exact_key n.whole else key_or_other has (category_name (category_of rules n.operands))

-- the key of the arm that a choice picks
abbrev pub key_for : Filling → (List ℕ → Bool) → ChoiceKind → Option ArgumentValue → List ℕ
key_for f has Plural (Some (Number n)) = key_for_number has f.cardinal n.now
key_for f has SelectOrdinal (Some (Number n)) = key_for_number has f.ordinal n.now
key_for f has Select (Some (Text t)) = key_or_other has t.now
key_for f has _ _ = other

-- the same of a choice that begins before pieces
abbrev pub picked : Filling → ChoiceKind → Word → List Piece → List ℕ
picked f k w ps = key_for f (λ key. has_arm f.text key 0 ps) k (named f w)

-- the mode behind a piece, where the arm with this key is sought
abbrev pub moved : List ℕ → List ℕ → Mode → Piece → Mode
moved text key Writing (Choice k w) = Seeking 0
moved text key Writing EndArm = Leaving 0
moved text key Writing _ = Writing
moved text key (Seeking n) (Choice k w) = Seeking (n + 1)
moved text key (Seeking n) (Arm w) = if n == 0 && same_bytes (word_in text w) key then Writing else Seeking n
moved text key (Seeking n) EndChoice = if n == 0 then Writing else Seeking (n - 1)
moved text key (Seeking n) _ = Seeking n
moved text key (Leaving n) (Choice k w) = Leaving (n + 1)
moved text key (Leaving n) EndChoice = if n == 0 then Writing else Leaving (n - 1)
moved text key (Leaving n) _ = Leaving n

-- the key that is sought behind a piece
abbrev pub sought : Filling → List ℕ → Mode → Piece → List Piece → List ℕ
sought f key Writing (Choice k w) ps = picked f k w ps
sought f key _ _ ps = key

-- what is written of a piece
abbrev pub piece_text : Filling → Mode → Piece → List ℕ
piece_text f Writing (Byte b) = b ∷ []
piece_text f Writing (Special b) = b ∷ []
piece_text f Writing (Place w) = value_text (named f w)
piece_text f Writing (Formatted w k) = value_text (formed f w k)
piece_text f Writing (Hash w) = value_text (named f w)
piece_text f _ _ = []

-- what is written of the pieces that are left
abbrev pub written_from : Filling → List ℕ → Mode → List Piece → List ℕ
written_from f key mode [] = []
written_from f key mode (p ∷ ps) = piece_text f mode p ++ written_from f (sought f key mode p ps) (moved f.text key mode p) ps

-- what is written of the pieces of a text
abbrev pub written : Filling → List Piece → List ℕ
written f ps = written_from f [] Writing ps

-- how many choices a mode is within
abbrev pub depth : Mode → ℕ
depth Writing = 0
depth (Seeking n) = n
depth (Leaving n) = n

-- what is wrong with an argument that stands in a place: it is missing
abbrev pub place_fault : Word → Option ArgumentValue → Option WriteError
place_fault w None = Some (MissingArgument w)
place_fault w (Some v) = None

-- what is wrong with an argument that stands in a place with a form: it isn't given in this form, or is a text
abbrev pub form_fault : Word → Option ArgumentValue → Option ArgumentValue → Option WriteError
form_fault w (Some v) plain = None
form_fault w None (Some (Text t)) = Some (NotANumber w)
form_fault w None plain = Some (MissingArgument w)

-- what is wrong with an argument that a choice picks by: it is missing, or of the other sort
abbrev pub choice_fault : ChoiceKind → Word → Option ArgumentValue → Option WriteError
choice_fault k w None = Some (MissingArgument w)
choice_fault k w (Some (Form t n)) = Some (MissingArgument w)
choice_fault Select w (Some (Number n)) = Some (NotAText w)
choice_fault Select w (Some (Text t)) = None
choice_fault k w (Some (Text t)) = Some (NotANumber w)
choice_fault k w (Some (Number n)) = None

-- what is wrong with the argument of a piece
abbrev pub piece_fault : Filling → Piece → Option WriteError
piece_fault f (Place w) = place_fault w (named f w)
piece_fault f (Formatted w k) = form_fault w (formed f w k) (named f w)
piece_fault f (Hash w) = place_fault w (named f w)
piece_fault f (Choice k w) = choice_fault k w (named f w)
piece_fault f _ = None

-- the first of two, if there is one
abbrev pub first_of : Option WriteError → Option WriteError → Option WriteError
first_of None later = later
first_of (Some e) later = Some e

-- what is wrong with the arguments, by the first piece whose argument is missing or of the other sort
abbrev pub argument_fault : Filling → List Piece → Option WriteError
argument_fault f [] = None
argument_fault f (p ∷ ps) = first_of (piece_fault f p) (argument_fault f ps)
