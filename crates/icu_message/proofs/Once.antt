-- On each way through a tree stand as many places as are counted, and one where one is counted.
use Rattle.std.proofs.Common.{◌≡◌, inl, inr, ℕ, suc, ◌+◌, ◌≤◌, List, [], ◌∷◌, ◌++◌, refl, sym, ap, subst, ◌∙◌}
use Rattle.std.proofs.Common.{arith, append_assoc}
use Rattle.std.specs.Prelude.{min, Bool, true, false, Option, Some, None, if◌then◌else◌}
use Rattle.icu_message.specs.declared.places.Places.{Places}
use Rattle.icu_message.specs.Words.{word_in, same_bytes}
use Rattle.icu_message.specs.Arguments.{value_text}
use Rattle.icu_message.specs.Writing.{Filling, named, formed, written}
use Rattle.icu_message.specs.Trees.{Tree, done, byte, special, place, formatted, counted, choice, Arms, last, arm, picked_key, tree_text, arm_text, arms_with}
use Rattle.icu_message.specs.Trees.{PicksOne, ArmsPickOne}
use Rattle.icu_message.specs.Paths.{Stop, own, place as place_stop, form, filled}
use Rattle.icu_message.specs.Places.{plus, none, one, with_place, joined, of_arms, is_named, places_from, arms_from, places_in, stops_in, arm_stops, times}
use Rattle.icu_message.specs.Places.{NumberStandsOnce}
use Rattle.icu_message.proofs.Spelled.{both}
use Rattle.icu_message.proofs.Walks.{written-by-trees}
use Rattle.icu_message.proofs.Built.{one-arm}

-- ---- what is written are the stops

filled_append : (f : Filling) (xs ys : List Stop) → filled f (xs ++ ys) ≡ filled f xs ++ filled f ys
filled_append f [] ys = refl
filled_append f (own b ∷ xs) ys = ap (λ r. b ∷ r) (filled_append f xs ys)
filled_append f (place_stop w ∷ xs) ys =
    ap (λ r. value_text (named f w) ++ r) (filled_append f xs ys) ∙ sym (append_assoc (value_text (named f w)) (filled f xs) (filled f ys))
filled_append f (form w k ∷ xs) ys =
    ap (λ r. value_text (formed f w k) ++ r) (filled_append f xs ys) ∙ sym (append_assoc (value_text (formed f w k)) (filled f xs) (filled f ys))

mutual
  tree_filled : (f : Filling) (t : Tree) → tree_text f t ≡ filled f (stops_in f t)
  tree_filled f done = refl
  tree_filled f (byte b t) = ap (λ r. b ∷ r) (tree_filled f t)
  tree_filled f (special b t) = ap (λ r. b ∷ r) (tree_filled f t)
  tree_filled f (place w t) = ap (λ r. value_text (named f w) ++ r) (tree_filled f t)
  tree_filled f (formatted w k t) = ap (λ r. value_text (formed f w k) ++ r) (tree_filled f t)
  tree_filled f (counted w t) = ap (λ r. value_text (named f w) ++ r) (tree_filled f t)
  tree_filled f (choice k w arms t) =
      ap (λ r. arm_text f (picked_key f k w arms) arms ++ r) (tree_filled f t)
      ∙ ap (λ r. r ++ filled f (stops_in f t)) (arms_filled f (picked_key f k w arms) arms)
      ∙ sym (filled_append f (arm_stops f (picked_key f k w arms) arms) (stops_in f t))

  arms_filled : (f : Filling) (key : List ℕ) (arms : Arms) → arm_text f key arms ≡ filled f (arm_stops f key arms)
  arms_filled f key last = refl
  arms_filled f key (arm w t more) = elim (same_bytes (word_in f.text w) key) as (λ b. (if b then tree_text f t else arm_text f key more)
      ≡ filled f (if b then stops_in f t else arm_stops f key more)) [
        | true ↦ tree_filled f t
        | false ↦ arms_filled f key more
      ]

-- ---- what is counted

times_append : (text name : List ℕ) (xs ys : List Stop) → times text name (xs ++ ys) ≡ times text name xs + times text name ys
times_append text name [] ys = omega arith
times_append text name (own b ∷ xs) ys = times_append text name xs ys
times_append text name (place_stop w ∷ xs) ys =
    let more = times_append text name xs ys in
    ap (λ n. (if is_named text name w then 1 else 0) + n) more ∙ omega arith
times_append text name (form w k ∷ xs) ys =
    let more = times_append text name xs ys in
    ap (λ n. (if is_named text name w then 1 else 0) + n) more ∙ omega arith

-- a count is between the least and the most
abbrev Within : ℕ → Places → Type 0
Within n c = (c.least ≤ n) × (min n 65535 ≤ c.most)

within_plus : (n m : ℕ) (c d : Places) → Within n c → Within m d → Within (n + m) (plus c d)
within_plus n m c d h k = (omega (arith, h.0, k.0), omega (arith, h.1, k.1))

within_none : Within 0 none
within_none = (omega arith, omega arith)

placed : (n : ℕ) (b : Bool) (c : Places) → Within n c → Within (n + (if b then 1 else 0)) (with_place b c)
placed n true c h = within_plus n 1 c one h (omega arith, omega arith)
placed n false c h = subst (λ m. Within m c) (omega arith) h

joined_within : (n : ℕ) (o : Option Places) (d : Places) → Within n d → Within n (joined o d)
joined_within n None d h = h
joined_within n (Some c) d h = (omega (arith, h.0), omega (arith, h.1))

joined_before : (n : ℕ) (c d : Places) → Within n c → Within n (joined (Some c) d)
joined_before n c d h = (omega (arith, h.0), omega (arith, h.1))

arms_kept : (text name : List ℕ) (n : ℕ) (c : Places) (arms : Arms) → Within n c → Within n (of_arms (arms_from text name (Some c) arms))
arms_kept text name n c last h = h
arms_kept text name n c (arm w t more) h =
    arms_kept text name n (joined (Some c) (places_from text name none t)) more (joined_before n c (places_from text name none t) h)

from_none : (n : ℕ) (c : Places) → Within (0 + n) c → Within n c
from_none n c h = subst (λ m. Within m c) (omega arith) h

moved_in : (a b c : ℕ) → (a + b) + c ≡ a + (b + c)
moved_in a b c = omega arith

mutual
  tree_within : (f : Filling) (name : List ℕ) (n : ℕ) (c : Places) (t : Tree) → PicksOne f t → Within n c
      → Within (n + times f.text name (stops_in f t)) (places_from f.text name c t)
  tree_within f name n c done p h = subst (λ m. Within m c) (omega arith) h
  tree_within f name n c (byte b t) p h = tree_within f name n c t p h
  tree_within f name n c (special b t) p h = tree_within f name n c t p h
  tree_within f name n c (place w t) p h =
      subst (λ m. Within m (places_from f.text name (with_place (is_named f.text name w) c) t))
      (moved_in n (if is_named f.text name w then 1 else 0) (times f.text name (stops_in f t)))
      (tree_within f name (n + (if is_named f.text name w then 1 else 0)) (with_place (is_named f.text name w) c) t p
      (placed n (is_named f.text name w) c h))
  tree_within f name n c (formatted w k t) p h =
      subst (λ m. Within m (places_from f.text name (with_place (is_named f.text name w) c) t))
      (moved_in n (if is_named f.text name w then 1 else 0) (times f.text name (stops_in f t)))
      (tree_within f name (n + (if is_named f.text name w then 1 else 0)) (with_place (is_named f.text name w) c) t p
      (placed n (is_named f.text name w) c h))
  tree_within f name n c (counted w t) p h =
      subst (λ m. Within m (places_from f.text name (with_place (is_named f.text name w) c) t))
      (moved_in n (if is_named f.text name w then 1 else 0) (times f.text name (stops_in f t)))
      (tree_within f name (n + (if is_named f.text name w then 1 else 0)) (with_place (is_named f.text name w) c) t p
      (placed n (is_named f.text name w) c h))
  tree_within f name n c (choice k w arms t) p h =
      let key : List ℕ = picked_key f k w arms in
      let picked : List Stop = arm_stops f key arms in
      let d : Places = of_arms (arms_from f.text name None arms) in
      subst (λ m. Within m (places_from f.text name (plus c d) t))
      (moved_in n (times f.text name picked) (times f.text name (stops_in f t))
      ∙ ap (λ m. n + m) (sym (times_append f.text name picked (stops_in f t))))
      (tree_within f name (n + times f.text name picked) (plus c d) t p.2
      (within_plus n (times f.text name picked) c d h (arms_within f name key None arms p.1 p.0)))

  arms_within : (f : Filling) (name key : List ℕ) (o : Option Places) (arms : Arms) → ArmsPickOne f arms → arms_with f.text key arms ≡ 1
      → Within (times f.text name (arm_stops f key arms)) (of_arms (arms_from f.text name o arms))
  arms_within f name key o last p h = absurd (omega (arith, h))
  arms_within f name key o (arm w t more) p h = elim (both (same_bytes (word_in f.text w) key)) [
    | inl e ↦
        let c : Places = places_from f.text name none t in
        let n : ℕ = times f.text name (stops_in f t) in
        let is : n ≡ times f.text name (arm_stops f key (arm w t more)) =
        ap (λ b. times f.text name (if b then stops_in f t else arm_stops f key more)) (sym e) in
        let inside : Within n c = from_none n c (tree_within f name 0 none t p.0 within_none) in
        subst (λ m. Within m (of_arms (arms_from f.text name (Some (joined o c)) more))) is
        (arms_kept f.text name n (joined o c) more (joined_within n o c inside))
    | inr e ↦
        let c : Places = places_from f.text name none t in
        let is : times f.text name (arm_stops f key more) ≡ times f.text name (arm_stops f key (arm w t more)) =
        ap (λ b. times f.text name (if b then stops_in f t else arm_stops f key more)) (sym e) in
        let left : arms_with f.text key more ≡ 1 =
        sym (ap (λ b. if b then suc (arms_with f.text key more) else arms_with f.text key more) e) ∙ h in
        subst (λ m. Within m (of_arms (arms_from f.text name (Some (joined o c)) more))) is
        (arms_within f name key (Some (joined o c)) more p.1 left)
  ]

only_one : (n : ℕ) → Within n one → n ≡ 1
only_one n h = omega (arith, h.0, h.1)

pub number-stands-once : NumberStandsOnce
number-stands-once f ps name h =
    let x = one-arm f ps h in
    let t : Tree = x.0 in (
      t,
      x.1,
      ap (written f) x.1 ∙ written-by-trees f t ∙ tree_filled f t,
      λ e. only_one (times f.text name (stops_in f t)) (subst (Within (times f.text name (stops_in f t))) e
          (from_none (times f.text name (stops_in f t)) (places_in f.text name t) (tree_within f name 0 none t x.2 within_none))),
    )
