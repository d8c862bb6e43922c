-- The way through a message: the bytes and the places that are written, one after another.
use Rattle.std.specs.Prelude.{◌≡◌, ℕ, List, [], ◌∷◌, ◌++◌}
use Rattle.icu_message.specs.declared.piece.Word.{Word}
use Rattle.icu_message.specs.declared.piece.ChoiceKind.{ChoiceKind}
use Rattle.icu_message.specs.declared.piece.Piece.{Piece}
use Rattle.icu_message.specs.declared.piece.Piece.TheVariants.{Byte, Special, Place, Formatted, Hash, Choice}
use Rattle.icu_message.specs.declared.moving.Mode.{Mode}
use Rattle.icu_message.specs.declared.moving.Mode.TheVariants.{Writing}
use Rattle.icu_message.specs.Arguments.{value_text}
use Rattle.icu_message.specs.Writing.{Filling, named, formed, picked, moved, written}

-- a byte of the message, or the place of an argument, perhaps in the form of a skeleton
pub data Stop : Type 0 where
  own : ℕ → Stop
  place : Word → Stop
  form : Word → Word → Stop

-- which arm is picked, of a choice that begins before pieces
abbrev pub Picks : Type 0
Picks = ChoiceKind → Word → List Piece → List ℕ

-- the stop of a piece
abbrev pub stop_at : Mode → Piece → List Stop
stop_at Writing (Byte b) = own b ∷ []
stop_at Writing (Special b) = own b ∷ []
stop_at Writing (Place w) = place w ∷ []
stop_at Writing (Formatted w k) = form w k ∷ []
stop_at Writing (Hash w) = place w ∷ []
stop_at _ _ = []

-- the key that is sought behind a piece
abbrev pub sought_by : Picks → List ℕ → Mode → Piece → List Piece → List ℕ
sought_by picks key Writing (Choice k w) ps = picks k w ps
sought_by picks key _ _ ps = key

-- the stops of the pieces that are left: they depend on the arguments only by what is picked
abbrev pub path_from : List ℕ → Picks → List ℕ → Mode → List Piece → List Stop
path_from text picks key mode [] = []
path_from text picks key mode (p ∷ ps) =
    stop_at mode p ++ path_from text picks (sought_by picks key mode p ps) (moved text key mode p) ps

-- the stops of the pieces of a text
abbrev pub path : List ℕ → Picks → List Piece → List Stop
path text picks ps = path_from text picks [] Writing ps

-- what is written at the stops: the message's own bytes, and arguments as they are
abbrev pub filled : Filling → List Stop → List ℕ
filled f [] = []
filled f (own b ∷ stops) = b ∷ filled f stops
filled f (place w ∷ stops) = value_text (named f w) ++ filled f stops
filled f (form w k ∷ stops) = value_text (formed f w k) ++ filled f stops

-- a message is written as its path, with arguments in places: what an argument writes is never read
abbrev pub ArgumentsAreNoSyntax : Type 0
ArgumentsAreNoSyntax = (f : Filling) (ps : List Piece) → written f ps ≡ filled f (path f.text (picked f) ps)
