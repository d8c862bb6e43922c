-- How many places of an argument stand on the ways through a message.
use Rattle.std.specs.Prelude.{◌≡◌, ℕ, ◌+◌, min, max, Bool, List, [], ◌∷◌, ◌++◌, Option, Some, None, if◌then◌else◌, Ok}
use Rattle.icu_message.specs.declared.piece.Word.{Word}
use Rattle.icu_message.specs.declared.piece.Piece.{Piece}
use Rattle.icu_message.specs.declared.places.Places.{Places}
use Rattle.icu_message.specs.Words.{word_in, same_bytes}
use Rattle.icu_message.specs.Reading.{pieces_of}
use Rattle.icu_message.specs.Writing.{Filling, written}
use Rattle.icu_message.specs.Trees.{Tree, done, byte, special, place, formatted, counted, choice, Arms, last, arm, pieces_in, picked_key}
use Rattle.icu_message.specs.Paths.{Stop, own, place as place_stop, form, filled}

-- the most that is counted: no message has so many places
abbrev pub most_counted : ℕ
most_counted = 65535

-- a sum, as far as it is counted
abbrev pub plus : Places → Places → Places
plus a b = record { least = min (a.least + b.least) most_counted; most = min (a.most + b.most) most_counted }

abbrev pub none : Places
none = record { least = 0; most = 0 }

abbrev pub one : Places
one = record { least = 1; most = 1 }

-- a place more, if it has the name
abbrev pub with_place : Bool → Places → Places
with_place is_named c = if is_named then plus c one else c

-- the least and the most of two arms
abbrev pub joined : Option Places → Places → Places
joined None d = d
joined (Some c) d = record { least = min c.least d.least; most = max c.most d.most }

-- the places of a choice; none without arms
abbrev pub of_arms : Option Places → Places
of_arms None = none
of_arms (Some c) = c

-- the word has this name
abbrev pub is_named : List ℕ → List ℕ → Word → Bool
is_named text name w = same_bytes (word_in text w) name

-- the places of a name behind others, in a tree: of a choice as many as the arm with the least has, up to the arm with the most
abbrev mutual
  pub places_from : List ℕ → List ℕ → Places → Tree → Places
  places_from text name c done = c
  places_from text name c (byte b t) = places_from text name c t
  places_from text name c (special b t) = places_from text name c t
  places_from text name c (place w t) = places_from text name (with_place (is_named text name w) c) t
  places_from text name c (formatted w k t) = places_from text name (with_place (is_named text name w) c) t
  places_from text name c (counted w t) = places_from text name (with_place (is_named text name w) c) t
  places_from text name c (choice k w arms t) = places_from text name (plus c (of_arms (arms_from text name None arms))) t

  pub arms_from : List ℕ → List ℕ → Option Places → Arms → Option Places
  arms_from text name o last = o
  arms_from text name o (arm w t more) = arms_from text name (Some (joined o (places_from text name none t))) more

-- the places of a name in a tree
abbrev pub places_in : List ℕ → List ℕ → Tree → Places
places_in text name t = places_from text name none t

-- the stops of a tree: its own bytes and its places, of each choice those of the arm that is picked
abbrev mutual
  pub stops_in : Filling → Tree → List Stop
  stops_in f done = []
  stops_in f (byte b t) = own b ∷ stops_in f t
  stops_in f (special b t) = own b ∷ stops_in f t
  stops_in f (place w t) = place_stop w ∷ stops_in f t
  stops_in f (formatted w k t) = form w k ∷ stops_in f t
  stops_in f (counted w t) = place_stop w ∷ stops_in f t
  stops_in f (choice k w arms t) = arm_stops f (picked_key f k w arms) arms ++ stops_in f t

  pub arm_stops : Filling → List ℕ → Arms → List Stop
  arm_stops f key last = []
  arm_stops f key (arm w t more) = if same_bytes (word_in f.text w) key then stops_in f t else arm_stops f key more

-- how many stops have a name
abbrev pub times : List ℕ → List ℕ → List Stop → ℕ
times text name [] = 0
times text name (own b ∷ stops) = times text name stops
times text name (place_stop w ∷ stops) = (if is_named text name w then 1 else 0) + times text name stops
times text name (form w k ∷ stops) = (if is_named text name w then 1 else 0) + times text name stops

-- where each arm that can be picked has one place of a name, its argument stands once in what is written, whatever the rules and
-- the arguments are: what is written are the stops of the tree, with arguments in places, and one of them has the name
abbrev pub NumberStandsOnce : Type 0
NumberStandsOnce = (f : Filling) (ps : List Piece) (name : List ℕ) → pieces_of f.text ≡ Ok ps
    → (t : Tree) × (ps ≡ pieces_in t []) × (written f ps ≡ filled f (stops_in f t))
    × (places_in f.text name t ≡ one → times f.text name (stops_in f t) ≡ 1)
