-- What is written while the pieces of a tree are passed.
use Rattle.std.proofs.Common.{◌≡◌, ℕ, ◌+◌, ◌-◌, List, [], ◌∷◌, ◌++◌, refl, sym, ap, ◌∙◌, arith, append_assoc, append-nil}
use Rattle.std.specs.Prelude.{true, false, ◌==◌, ◌&&◌, ◌||◌, if◌then◌else◌}
use Rattle.std.proofs.lemmas.Bool.Decides.{nat_tests}
use Rattle.icu_message.specs.declared.piece.Piece.{Piece}
use Rattle.icu_message.specs.declared.piece.Piece.TheVariants.{Byte, Special, Place, Formatted, Hash, Choice, Arm, EndArm, EndChoice}
use Rattle.icu_message.specs.declared.piece.ChoiceKind.{ChoiceKind}
use Rattle.icu_message.specs.declared.piece.Word.{Word}
use Rattle.icu_message.specs.declared.moving.Mode.TheVariants.{Writing, Seeking, Leaving}
use Rattle.icu_message.specs.Words.{word_in, same_bytes}
use Rattle.icu_message.specs.Arguments.{value_text}
use Rattle.icu_message.specs.Writing.{Filling, named, formed, key_for, picked, has_arm, written_from}
use Rattle.icu_message.specs.Trees.{Tree, done, byte, special, place, formatted, counted, choice, Arms, last, arm, pieces_in, pieces_in_arms, arms_have}
use Rattle.icu_message.specs.Trees.{picked_key, tree_text, arm_text, WrittenByTrees}

-- a level more isn't zero, and a level less again is the level
up : (n : ℕ) → ((n + 1) == 0) ≡ false
up n = grind (arith, nat_tests)

down : (n : ℕ) → (n + 1) - 1 ≡ n
down n = omega arith

-- seeking passes a tree
mutual
  pub seek-tree : (f : Filling) (key : List ℕ) (n : ℕ) (t : Tree) (rest : List Piece)
      → written_from f key (Seeking n) (pieces_in t rest) ≡ written_from f key (Seeking n) rest
  seek-tree f key n done rest = refl
  seek-tree f key n (byte b t) rest = seek-tree f key n t rest
  seek-tree f key n (special b t) rest = seek-tree f key n t rest
  seek-tree f key n (place w t) rest = seek-tree f key n t rest
  seek-tree f key n (formatted w k t) rest = seek-tree f key n t rest
  seek-tree f key n (counted w t) rest = seek-tree f key n t rest
  seek-tree f key n (choice k w arms t) rest =
      seek-arms f key n arms (EndChoice ∷ pieces_in t rest)
      ∙ ap (λ b. written_from f key (if b then Writing else Seeking ((n + 1) - 1)) (pieces_in t rest)) (up n)
      ∙ ap (λ m. written_from f key (Seeking m) (pieces_in t rest)) (down n)
      ∙ seek-tree f key n t rest

  pub seek-arms : (f : Filling) (key : List ℕ) (n : ℕ) (arms : Arms) (rest : List Piece)
      → written_from f key (Seeking (n + 1)) (pieces_in_arms arms rest) ≡ written_from f key (Seeking (n + 1)) rest
  seek-arms f key n last rest = refl
  seek-arms f key n (arm w t more) rest =
      ap (λ b. written_from f key (if b && same_bytes (word_in f.text w) key then Writing else Seeking (n + 1))
      (pieces_in t (EndArm ∷ pieces_in_arms more rest))) (up n)
      ∙ seek-tree f key (n + 1) t (EndArm ∷ pieces_in_arms more rest)
      ∙ seek-arms f key n more rest

-- leaving passes a tree
mutual
  pub leave-tree : (f : Filling) (key : List ℕ) (n : ℕ) (t : Tree) (rest : List Piece)
      → written_from f key (Leaving n) (pieces_in t rest) ≡ written_from f key (Leaving n) rest
  leave-tree f key n done rest = refl
  leave-tree f key n (byte b t) rest = leave-tree f key n t rest
  leave-tree f key n (special b t) rest = leave-tree f key n t rest
  leave-tree f key n (place w t) rest = leave-tree f key n t rest
  leave-tree f key n (formatted w k t) rest = leave-tree f key n t rest
  leave-tree f key n (counted w t) rest = leave-tree f key n t rest
  leave-tree f key n (choice k w arms t) rest =
      leave-arms f key (n + 1) arms (EndChoice ∷ pieces_in t rest)
      ∙ ap (λ b. written_from f key (if b then Writing else Leaving ((n + 1) - 1)) (pieces_in t rest)) (up n)
      ∙ ap (λ m. written_from f key (Leaving m) (pieces_in t rest)) (down n)
      ∙ leave-tree f key n t rest

  pub leave-arms : (f : Filling) (key : List ℕ) (n : ℕ) (arms : Arms) (rest : List Piece)
      → written_from f key (Leaving n) (pieces_in_arms arms rest) ≡ written_from f key (Leaving n) rest
  leave-arms f key n last rest = refl
  leave-arms f key n (arm w t more) rest =
      leave-tree f key n t (EndArm ∷ pieces_in_arms more rest) ∙ leave-arms f key n more rest

-- the search for a key passes a tree
mutual
  pub find-tree : (text : List ℕ) (key : List ℕ) (n : ℕ) (t : Tree) (rest : List Piece)
      → has_arm text key n (pieces_in t rest) ≡ has_arm text key n rest
  find-tree text key n done rest = refl
  find-tree text key n (byte b t) rest = find-tree text key n t rest
  find-tree text key n (special b t) rest = find-tree text key n t rest
  find-tree text key n (place w t) rest = find-tree text key n t rest
  find-tree text key n (formatted w k t) rest = find-tree text key n t rest
  find-tree text key n (counted w t) rest = find-tree text key n t rest
  find-tree text key n (choice k w arms t) rest =
      find-arms text key n arms (EndChoice ∷ pieces_in t rest)
      ∙ ap (λ b. if b then false else has_arm text key ((n + 1) - 1) (pieces_in t rest)) (up n)
      ∙ ap (λ m. has_arm text key m (pieces_in t rest)) (down n)
      ∙ find-tree text key n t rest

  pub find-arms : (text : List ℕ) (key : List ℕ) (n : ℕ) (arms : Arms) (rest : List Piece)
      → has_arm text key (n + 1) (pieces_in_arms arms rest) ≡ has_arm text key (n + 1) rest
  find-arms text key n last rest = refl
  find-arms text key n (arm w t more) rest =
      ap (λ b. (b && same_bytes (word_in text w) key) || has_arm text key (n + 1) (pieces_in t (EndArm ∷ pieces_in_arms more rest))) (up n)
      ∙ find-tree text key (n + 1) t (EndArm ∷ pieces_in_arms more rest)
      ∙ find-arms text key n more rest

-- a choice has the arms of its tree
pub found : (text : List ℕ) (key : List ℕ) (arms : Arms) (rest : List Piece)
    → has_arm text key 0 (pieces_in_arms arms (EndChoice ∷ rest)) ≡ arms_have text key arms
found text key last rest = refl
found text key (arm w t more) rest =
    ap (λ b. same_bytes (word_in text w) key || b)
    (find-tree text key 0 t (EndArm ∷ pieces_in_arms more (EndChoice ∷ rest)) ∙ found text key more rest)

-- so a choice picks as its tree
picks : (f : Filling) (k : ChoiceKind) (w : Word) (arms : Arms) (rest : List Piece)
    → picked f k w (pieces_in_arms arms (EndChoice ∷ rest)) ≡ picked_key f k w arms
picks f k w arms rest = λ i. key_for f (λ key. found f.text key arms rest i) k (named f w)

-- while an arm is left, the key doesn't matter; nor while pieces are written
mutual
  leave-any : (f : Filling) (k l : List ℕ) (n : ℕ) (ps : List Piece)
      → written_from f k (Leaving n) ps ≡ written_from f l (Leaving n) ps
  leave-any f k l n [] = refl
  leave-any f k l n (Byte b ∷ ps) = leave-any f k l n ps
  leave-any f k l n (Special b ∷ ps) = leave-any f k l n ps
  leave-any f k l n (Place w ∷ ps) = leave-any f k l n ps
  leave-any f k l n (Formatted w s ∷ ps) = leave-any f k l n ps
  leave-any f k l n (Hash w ∷ ps) = leave-any f k l n ps
  leave-any f k l n (Choice c w ∷ ps) = leave-any f k l (n + 1) ps
  leave-any f k l n (Arm w ∷ ps) = leave-any f k l n ps
  leave-any f k l n (EndArm ∷ ps) = leave-any f k l n ps
  leave-any f k l n (EndChoice ∷ ps) = elim (n == 0) as (λ b. written_from f k (if b then Writing else Leaving (n - 1)) ps
      ≡ written_from f l (if b then Writing else Leaving (n - 1)) ps) [
        | true ↦ write-any f k l ps
        | false ↦ leave-any f k l (n - 1) ps
      ]

  write-any : (f : Filling) (k l : List ℕ) (ps : List Piece)
      → written_from f k Writing ps ≡ written_from f l Writing ps
  write-any f k l [] = refl
  write-any f k l (Byte b ∷ ps) = ap (λ r. b ∷ r) (write-any f k l ps)
  write-any f k l (Special b ∷ ps) = ap (λ r. b ∷ r) (write-any f k l ps)
  write-any f k l (Place w ∷ ps) = ap (λ r. value_text (named f w) ++ r) (write-any f k l ps)
  write-any f k l (Formatted w s ∷ ps) = ap (λ r. value_text (formed f w s) ++ r) (write-any f k l ps)
  write-any f k l (Hash w ∷ ps) = ap (λ r. value_text (named f w) ++ r) (write-any f k l ps)
  write-any f k l (Choice c w ∷ ps) = refl
  write-any f k l (Arm w ∷ ps) = write-any f k l ps
  write-any f k l (EndArm ∷ ps) = leave-any f k l 0 ps
  write-any f k l (EndChoice ∷ ps) = write-any f k l ps

-- a tree is written, and then the rest
mutual
  pub write-tree : (f : Filling) (key : List ℕ) (t : Tree) (rest : List Piece)
      → written_from f key Writing (pieces_in t rest) ≡ tree_text f t ++ written_from f [] Writing rest
  write-tree f key done rest = write-any f key [] rest
  write-tree f key (byte b t) rest = ap (λ r. b ∷ r) (write-tree f key t rest)
  write-tree f key (special b t) rest = ap (λ r. b ∷ r) (write-tree f key t rest)
  write-tree f key (place w t) rest =
      ap (λ r. value_text (named f w) ++ r) (write-tree f key t rest) ∙ sym (append_assoc (value_text (named f w)) (tree_text f t) _)
  write-tree f key (formatted w k t) rest =
      ap (λ r. value_text (formed f w k) ++ r) (write-tree f key t rest) ∙ sym (append_assoc (value_text (formed f w k)) (tree_text f t) _)
  write-tree f key (counted w t) rest =
      ap (λ r. value_text (named f w) ++ r) (write-tree f key t rest) ∙ sym (append_assoc (value_text (named f w)) (tree_text f t) _)
  write-tree f key (choice k w arms t) rest =
      ap (λ key. written_from f key (Seeking 0) (pieces_in_arms arms (EndChoice ∷ pieces_in t rest))) (picks f k w arms (pieces_in t rest))
      ∙ write-arms f (picked_key f k w arms) arms (pieces_in t rest)
      ∙ ap (λ r. arm_text f (picked_key f k w arms) arms ++ r) (write-tree f [] t rest)
      ∙ sym (append_assoc (arm_text f (picked_key f k w arms) arms) (tree_text f t) _)

  pub write-arms : (f : Filling) (key : List ℕ) (arms : Arms) (rest : List Piece)
      → written_from f key (Seeking 0) (pieces_in_arms arms (EndChoice ∷ rest)) ≡ arm_text f key arms ++ written_from f [] Writing rest
  write-arms f key last rest = write-any f key [] rest
  write-arms f key (arm w t more) rest = elim (same_bytes (word_in f.text w) key) as (λ b.
      written_from f key (if b then Writing else Seeking 0) (pieces_in t (EndArm ∷ pieces_in_arms more (EndChoice ∷ rest)))
      ≡ (if b then tree_text f t else arm_text f key more) ++ written_from f [] Writing rest) [
        | true ↦ write-tree f key t (EndArm ∷ pieces_in_arms more (EndChoice ∷ rest))
            ∙ ap (λ r. tree_text f t ++ r) (leave-arms f [] 0 more (EndChoice ∷ rest))
        | false ↦ seek-tree f key 0 t (EndArm ∷ pieces_in_arms more (EndChoice ∷ rest)) ∙ write-arms f key more rest
      ]

pub written-by-trees : WrittenByTrees
written-by-trees f t = write-tree f [] t [] ∙ append-nil (tree_text f t)
