-- The names of a message with their kinds, in the order in which they first appear.
use Rattle.std.specs.Prelude.{Bool, false, ◌||◌, ℕ, List, [], ◌∷◌, ◌++◌, Option, Some, None, if◌then◌else◌}
use Rattle.icu_message.specs.declared.piece.Word.{Word}
use Rattle.icu_message.specs.declared.piece.ChoiceKind.TheVariants.{Select}
use Rattle.icu_message.specs.declared.piece.Piece.{Piece}
use Rattle.icu_message.specs.declared.piece.Piece.TheVariants.{Place, Formatted, Hash, Choice}
use Rattle.icu_message.specs.declared.signature.ArgumentKind.{ArgumentKind}
use Rattle.icu_message.specs.declared.signature.ArgumentKind.TheVariants.{Any, Number, Text}
use Rattle.icu_message.specs.declared.signature.NamedKind.{NamedKind}
use Rattle.icu_message.specs.Words.{same_words}

-- a name, of whose argument this is asked
abbrev pub asked_of : Word → ArgumentKind → Option NamedKind
asked_of w kind = Some (record { name = w; kind = kind })

-- the name of a piece, and what the piece asks of its argument
abbrev pub asked : Piece → Option NamedKind
asked (Place w) = asked_of w Any
asked (Formatted w k) = asked_of w Number
asked (Hash w) = asked_of w Number
asked (Choice Select w) = asked_of w Text
asked (Choice k w) = asked_of w Number
asked _ = None

-- what is asked of the argument with a name
abbrev pub kind_at : List ℕ → Word → Option NamedKind → ArgumentKind
kind_at text w None = Any
kind_at text w (Some a) = if same_words text a.name w then a.kind else Any

-- a kind, or a later one if it may be any
abbrev pub decided : ArgumentKind → ArgumentKind → ArgumentKind
decided Any later = later
decided Number later = Number
decided Text later = Text

-- the kind of a name: what the first of the pieces asks that doesn't take any argument
abbrev pub kind_of_name : List ℕ → Word → List Piece → ArgumentKind
kind_of_name text w [] = Any
kind_of_name text w (p ∷ ps) = decided (kind_at text w (asked p)) (kind_of_name text w ps)

-- a name is among others
abbrev pub is_listed : List ℕ → Word → List NamedKind → Bool
is_listed text w [] = false
is_listed text w (a ∷ more) = same_words text a.name w || is_listed text w more

-- a name more, with its kind in all pieces, unless it is among the names
abbrev pub with_asked : List ℕ → List Piece → List NamedKind → Option NamedKind → List NamedKind
with_asked text all names None = names
with_asked text all names (Some a) =
    if is_listed text a.name names then names
    else names ++ record { name = a.name; kind = kind_of_name text a.name all } ∷ []

-- names, and those of the pieces that are left
abbrev pub signature_from : List ℕ → List Piece → List NamedKind → List Piece → List NamedKind
signature_from text all names [] = names
signature_from text all names (p ∷ ps) = signature_from text all (with_asked text all names (asked p)) ps

-- the names of the pieces of a text with their kinds, in the order in which they first appear
abbrev pub signature : List ℕ → List Piece → List NamedKind
signature text ps = signature_from text ps [] ps
