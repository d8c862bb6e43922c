-- Counting passes the pieces of a tree as its places say.
use Rattle.std.proofs.Common.{◌≡◌, ℕ, List, [], ◌∷◌, refl, ap, ◌∙◌}
use Rattle.std.specs.Prelude.{Option, Some, None, Result, Ok, Err, IfOk}
use Rattle.icu_message.specs.declared.piece.Piece.{Piece}
use Rattle.icu_message.specs.declared.piece.Piece.TheVariants.{EndArm, EndChoice}
use Rattle.icu_message.specs.declared.places.Around.{Around}
use Rattle.icu_message.specs.declared.places.Places.{Places}
use Rattle.icu_message.specs.Trees.{Tree, done, byte, special, place, formatted, counted, choice, Arms, last, arm, pieces_in, pieces_in_arms}
use Rattle.icu_message.specs.Places.{plus, none, with_place, joined, of_arms, is_named, places_from, arms_from, places_in}
use Rattle.icu_message.specs.Counting.{Counted, counted_from, nothing_counted}

-- a tree is passed, and then the rest
mutual
  pub count-tree : (text name : List ℕ) (c : Places) (xs : List Around) (t : Tree) (rest : List Piece)
      → counted_from text name (record { places = c; around = xs }) (pieces_in t rest)
      ≡ counted_from text name (record { places = places_from text name c t; around = xs }) rest
  count-tree text name c xs done rest = refl
  count-tree text name c xs (byte b t) rest = count-tree text name c xs t rest
  count-tree text name c xs (special b t) rest = count-tree text name c xs t rest
  count-tree text name c xs (place w t) rest = count-tree text name (with_place (is_named text name w) c) xs t rest
  count-tree text name c xs (formatted w k t) rest = count-tree text name (with_place (is_named text name w) c) xs t rest
  count-tree text name c xs (counted w t) rest = count-tree text name (with_place (is_named text name w) c) xs t rest
  count-tree text name c xs (choice k w arms t) rest =
      count-arms text name c None xs arms (EndChoice ∷ pieces_in t rest)
      ∙ count-tree text name (plus c (of_arms (arms_from text name None arms))) xs t rest

  pub count-arms : (text name : List ℕ) (c : Places) (o : Option Places) (xs : List Around) (arms : Arms) (rest : List Piece)
      → counted_from text name (record { places = none; around = record { before = c; arms = o } ∷ xs }) (pieces_in_arms arms rest)
      ≡ counted_from text name (record { places = none; around = record { before = c; arms = arms_from text name o arms } ∷ xs }) rest
  count-arms text name c o xs last rest = refl
  count-arms text name c o xs (arm w t more) rest =
      count-tree text name none (record { before = c; arms = o } ∷ xs) t (EndArm ∷ pieces_in_arms more rest)
      ∙ count-arms text name c (Some (joined o (places_from text name none t))) xs more rest

-- what is counted of the pieces of a tree
pub tree_counted : {E : Type 0} (text name : List ℕ) (ps : List Piece) (t : Tree) (r : Result Places E)
    → IfOk r (λ c. c ≡ (counted_from text name nothing_counted ps).places) → ps ≡ pieces_in t [] → IfOk r (λ c. c ≡ places_in text name t)
tree_counted text name ps t (Ok c) h e =
    h ∙ ap (λ l. (counted_from text name nothing_counted l).places) e ∙ ap (λ (s : Counted). s.places) (count-tree text name none [] t [])
tree_counted text name ps t (Err x) h e = tt
