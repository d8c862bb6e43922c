-- Messages as trees: what the pieces are the walk of, and what is written of them.
use Rattle.std.specs.Prelude.{◌≡◌, ℕ, zero, suc, Bool, false, ◌||◌, List, [], ◌∷◌, ◌++◌, if◌then◌else◌, Ok}
use Rattle.icu_message.specs.declared.piece.Word.{Word}
use Rattle.icu_message.specs.declared.piece.ChoiceKind.{ChoiceKind}
use Rattle.icu_message.specs.declared.piece.Piece.{Piece}
use Rattle.icu_message.specs.declared.piece.Piece.TheVariants.{Byte, Special, Place, Formatted, Hash, Choice, Arm, EndArm, EndChoice}
use Rattle.icu_message.specs.Arguments.{value_text}
use Rattle.icu_message.specs.Reading.{pieces_of}
use Rattle.icu_message.specs.Words.{word_in, same_bytes}
use Rattle.icu_message.specs.Writing.{Filling, named, formed, key_for, written}

-- a message is bytes, places and choices; a choice has arms, and an arm a message
mutual
  pub data Tree : Type 0 where
    done : Tree
    byte : ℕ → Tree → Tree
    special : ℕ → Tree → Tree
    place : Word → Tree → Tree
    formatted : Word → Word → Tree → Tree
    counted : Word → Tree → Tree
    choice : ChoiceKind → Word → Arms → Tree → Tree

  pub data Arms : Type 0 where
    last : Arms
    arm : Word → Tree → Arms → Arms

-- the pieces of a tree, before others
abbrev mutual
  pub pieces_in : Tree → List Piece → List Piece
  pieces_in done rest = rest
  pieces_in (byte b t) rest = Byte b ∷ pieces_in t rest
  pieces_in (special b t) rest = Special b ∷ pieces_in t rest
  pieces_in (place w t) rest = Place w ∷ pieces_in t rest
  pieces_in (formatted w k t) rest = Formatted w k ∷ pieces_in t rest
  pieces_in (counted w t) rest = Hash w ∷ pieces_in t rest
  pieces_in (choice k w arms t) rest = Choice k w ∷ pieces_in_arms arms (EndChoice ∷ pieces_in t rest)

  pub pieces_in_arms : Arms → List Piece → List Piece
  pieces_in_arms last rest = rest
  pieces_in_arms (arm w t more) rest = Arm w ∷ pieces_in t (EndArm ∷ pieces_in_arms more rest)

-- an arm has this key
abbrev pub arms_have : List ℕ → List ℕ → Arms → Bool
arms_have text key last = false
arms_have text key (arm w t more) = same_bytes (word_in text w) key || arms_have text key more

-- the key of the arm that a choice picks
abbrev pub picked_key : Filling → ChoiceKind → Word → Arms → List ℕ
picked_key f k w arms = key_for f (λ key. arms_have f.text key arms) k (named f w)

-- what is written of a tree: of a choice what its picked arm writes
abbrev mutual
  pub tree_text : Filling → Tree → List ℕ
  tree_text f done = []
  tree_text f (byte b t) = b ∷ tree_text f t
  tree_text f (special b t) = b ∷ tree_text f t
  tree_text f (place w t) = value_text (named f w) ++ tree_text f t
  tree_text f (formatted w k t) = value_text (formed f w k) ++ tree_text f t
  tree_text f (counted w t) = value_text (named f w) ++ tree_text f t
  tree_text f (choice k w arms t) = arm_text f (picked_key f k w arms) arms ++ tree_text f t

  pub arm_text : Filling → List ℕ → Arms → List ℕ
  arm_text f key last = []
  arm_text f key (arm w t more) = if same_bytes (word_in f.text w) key then tree_text f t else arm_text f key more

-- of a tree's pieces what the tree says is written: of each choice one arm alone
abbrev pub WrittenByTrees : Type 0
WrittenByTrees = (f : Filling) (t : Tree) → written f (pieces_in t []) ≡ tree_text f t

-- the pieces of each text that is read are those of a tree
abbrev pub ReadIsTree : Type 0
ReadIsTree = (text : List ℕ) (ps : List Piece) → pieces_of text ≡ Ok ps → (t : Tree) × (ps ≡ pieces_in t [])

-- how many arms have this key
abbrev pub arms_with : List ℕ → List ℕ → Arms → ℕ
arms_with text key last = zero
arms_with text key (arm w t more) = if same_bytes (word_in text w) key then suc (arms_with text key more) else arms_with text key more

-- of each choice exactly one arm has the key that is picked
abbrev mutual
  pub PicksOne : Filling → Tree → Type 0
  PicksOne f done = Unit {0}
  PicksOne f (byte b t) = PicksOne f t
  PicksOne f (special b t) = PicksOne f t
  PicksOne f (place w t) = PicksOne f t
  PicksOne f (formatted w k t) = PicksOne f t
  PicksOne f (counted w t) = PicksOne f t
  PicksOne f (choice k w arms t) = (arms_with f.text (picked_key f k w arms) arms ≡ 1) × ArmsPickOne f arms × PicksOne f t

  pub ArmsPickOne : Filling → Arms → Type 0
  ArmsPickOne f last = Unit {0}
  ArmsPickOne f (arm w t more) = PicksOne f t × ArmsPickOne f more

-- each text that is read is a tree in which each choice picks exactly one arm, whatever the rules and the arguments are
abbrev pub OneArm : Type 0
OneArm = (f : Filling) (ps : List Piece) → pieces_of f.text ≡ Ok ps → (t : Tree) × (ps ≡ pieces_in t []) × PicksOne f t
