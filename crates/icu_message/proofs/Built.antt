-- The tree of normal pieces, from the back: a message and, for each open choice, its other arms and what stands behind it.
use Rattle.std.proofs.Common.{◌≡◌, inl, inr, ℕ, suc, ◌+◌, ◌-◌, ◌<◌, List, [], ◌∷◌, ◌++◌, length, refl, sym, ap}
use Rattle.std.proofs.Common.{subst, ◌∙◌, arith}
use Rattle.std.specs.Prelude.{Bool, true, false, ◌==◌, ◌&&◌, ◌||◌, nat_le, if◌then◌else◌, Option, Some, None}
use Rattle.std.specs.List.{filter}
use Rattle.std.proofs.lemmas.Bool.Decides.{nat_tests}
use Rattle.icu_plurals.specs.Rules.{Rule, category_of}
use Rattle.icu_message.specs.declared.piece.Word.{Word}
use Rattle.icu_message.specs.declared.piece.ChoiceKind.{ChoiceKind}
use Rattle.icu_message.specs.declared.piece.ChoiceKind.TheVariants.{Plural, SelectOrdinal, Select}
use Rattle.icu_message.specs.declared.piece.Piece.{Piece}
use Rattle.icu_message.specs.declared.piece.Piece.TheVariants.{Byte, Special, Place, Formatted, Hash, Choice, Arm, EndArm, EndChoice}
use Rattle.icu_message.specs.declared.argument.ArgumentValue.{ArgumentValue}
use Rattle.icu_message.specs.declared.argument.ArgumentValue.TheVariants.{Text, Number, Form}
use Rattle.icu_message.specs.Words.{word_in, same_bytes, other}
use Rattle.icu_message.specs.Names.{category_name}
use Rattle.icu_message.specs.Numbers.{Number as Shown, exact_key}
use Rattle.icu_message.specs.Writing.{Filling, named, key_for_number, key_for}
use Rattle.icu_message.specs.Spelling.{said_all, SaidKey, SaidChoice, keys_have, IsNormalFrom}
use Rattle.icu_message.specs.Trees.{Tree, done, byte, special, place, formatted, counted, choice, Arms, last, arm, pieces_in, pieces_in_arms, arms_have}
use Rattle.icu_message.specs.Trees.{arms_with, picked_key, PicksOne, ArmsPickOne, ReadIsTree, OneArm}
use Rattle.icu_message.proofs.Normal.{pieces_are_normal}
use Rattle.icu_message.proofs.Spelled.{and_left, and_right, or_left, or_right, both, equal_bytes}

-- ---- what is sound

-- each choice has the arm `other`, and no key twice
abbrev mutual
  Sound : List ℕ → Tree → Type 0
  Sound text done = Unit {0}
  Sound text (byte b t) = Sound text t
  Sound text (special b t) = Sound text t
  Sound text (place w t) = Sound text t
  Sound text (formatted w k t) = Sound text t
  Sound text (counted w t) = Sound text t
  Sound text (choice k w arms t) = (arms_have text other arms ≡ true) × AreSound text arms × Sound text t

  AreSound : List ℕ → Arms → Type 0
  AreSound text last = Unit {0}
  AreSound text (arm w t more) = (arms_have text (word_in text w) more ≡ false) × Sound text t × AreSound text more

-- no arm has a key of this level
abbrev Fresh : List ℕ → ℕ → List SaidKey → Arms → Type 0
Fresh text n ks last = Unit {0}
Fresh text n ks (arm w t more) = (keys_have n (word_in text w) ks ≡ false) × Fresh text n ks more

-- the keys of the choices down to a level
abbrev down_to : ℕ → List SaidKey → List SaidKey
down_to n ks = filter (λ k. nat_le k.level n) ks

-- what is open around a message
abbrev Around : Type 0
Around = List (Arms × Tree)

-- the other arms of each open choice belong to its keys
abbrev Fits : List ℕ → ℕ → List SaidKey → Around → Type 0
Fits text n ks [] = Unit {0}
Fits text n ks (x ∷ xs) = ((keys_have n other ks || arms_have text other x.0) ≡ true) × Fresh text n ks x.0 × AreSound text x.0 × Sound text x.1
    × Fits text (n - 1) (down_to (n - 1) ks) xs

abbrev behind : Around → List Piece
behind [] = []
behind (x ∷ xs) = EndArm ∷ pieces_in_arms x.0 (EndChoice ∷ pieces_in x.1 (behind xs))

record InMessage (text : List ℕ) (n : ℕ) (ks : List SaidKey) (ps : List Piece) : Type 0 where
  tree : Tree
  around : Around
  levels : length around ≡ n
  is : ps ≡ pieces_in tree (behind around)
  sound : Sound text tree
  fits : Fits text n ks around

record InArms (text : List ℕ) (n : ℕ) (ks : List SaidKey) (ps : List Piece) : Type 0 where
  arms : Arms
  tree : Tree
  around : Around
  levels : suc (length around) ≡ n
  is : ps ≡ pieces_in_arms arms (EndChoice ∷ pieces_in tree (behind around))
  has_other : (keys_have n other ks || arms_have text other arms) ≡ true
  fresh : Fresh text n ks arms
  are_sound : AreSound text arms
  sound : Sound text tree
  fits : Fits text (n - 1) (down_to (n - 1) ks) around

-- ---- tests

or_false : (x : Bool) → (x || false) ≡ x
or_false true = refl
or_false false = refl

or_assoc : (x y z : Bool) → (x || (y || z)) ≡ ((x || y) || z)
or_assoc true y z = refl
or_assoc false y z = refl

or_true : (x y : Bool) → x ≡ true → (x || y) ≡ true
or_true x y h = ap (λ c. c || y) h

-- equal bytes, the other way round
same_turned : (x y : List ℕ) → same_bytes x y ≡ same_bytes y x
same_turned [] [] = refl
same_turned [] (b ∷ y) = refl
same_turned (a ∷ x) [] = refl
same_turned (a ∷ x) (b ∷ y) =
    let e : (a == b) ≡ (b == a) = grind (arith, nat_tests) in
    ap (λ c. c && same_bytes x y) e ∙ ap (λ c. b == a && c) (same_turned x y)

same_equal : (x y : List ℕ) → same_bytes x y ≡ true → x ≡ y
same_equal [] [] h = refl
same_equal [] (b ∷ y) h = absurd (cc)
same_equal (a ∷ x) [] h = absurd (cc)
same_equal (a ∷ x) (b ∷ y) h =
    ap (λ l. a ∷ l) (same_equal x y (and_right (a == b) (same_bytes x y) h)) ∙ ap (λ c. c ∷ y) (equal_bytes a b (and_left (a == b) (same_bytes x y) h))

-- ---- keys by their levels

-- each key belongs to a choice down to a level
abbrev Low : ℕ → List SaidKey → Type 0
Low n [] = Unit {0}
Low n (k ∷ ks) = (nat_le k.level n ≡ true) × Low n ks

low_up : (n : ℕ) (ks : List SaidKey) → Low n ks → Low (n + 1) ks
low_up n [] h = tt
low_up n (k ∷ ks) h = let e : nat_le k.level n ≡ true = h.0 in (grind (arith, nat_tests), low_up n ks h.1)

low_added : (n : ℕ) (w : List ℕ) (ks : List SaidKey) → Low n ks → Low n (ks ++ record { level = n; word = w } ∷ [])
low_added n w [] h = (grind (arith, nat_tests), tt)
low_added n w (k ∷ ks) h = (h.0, low_added n w ks h.1)

low_kept : (m : ℕ) (k : SaidKey) (c : Bool) (rest : List SaidKey) → nat_le k.level m ≡ c → Low m rest → Low m (if c then k ∷ rest else rest)
low_kept m k true rest e h = (e, h)
low_kept m k false rest e h = h

low_down : (m : ℕ) (ks : List SaidKey) → Low m (down_to m ks)
low_down m [] = tt
low_down m (k ∷ ks) = low_kept m k (nat_le k.level m) (down_to m ks) refl (low_down m ks)

-- all are kept
all_low : (n : ℕ) (ks : List SaidKey) → Low n ks → down_to n ks ≡ ks
all_low n [] h = refl
all_low n (k ∷ ks) h = ap (λ c. if c then k ∷ down_to n ks else down_to n ks) h.0 ∙ ap (λ l. k ∷ l) (all_low n ks h.1)

-- none is of the next level
none_above : (n : ℕ) (w : List ℕ) (ks : List SaidKey) → Low n ks → keys_have (n + 1) w ks ≡ false
none_above n w [] h = refl
none_above n w (k ∷ ks) h =
    let e : nat_le k.level n ≡ true = h.0 in
    let d : (k.level == (n + 1)) ≡ false = grind (arith, nat_tests) in
    ap (λ c. (c && same_bytes k.word w) || keys_have (n + 1) w ks) d ∙ none_above n w ks h.1

-- a key more
key_more : (n : ℕ) (v w : List ℕ) (ks : List SaidKey) → keys_have n v (ks ++ record { level = n; word = w } ∷ [])
    ≡ (keys_have n v ks || same_bytes w v)
key_more n v w [] =
    let e : (n == n) ≡ true = grind (arith, nat_tests) in
    ap (λ c. (c && same_bytes w v) || false) e ∙ or_false (same_bytes w v)
key_more n v w (k ∷ ks) =
    ap (λ r. (k.level == n && same_bytes k.word v) || r) (key_more n v w ks)
    ∙ or_assoc (k.level == n && same_bytes k.word v) (keys_have n v ks) (same_bytes w v)

-- of a level that is left out
more_dropped : (n : ℕ) (w : List ℕ) (ks : List SaidKey) → 0 < n → down_to (n - 1) (ks ++ record { level = n; word = w } ∷ []) ≡ down_to (n - 1) ks
more_dropped n w [] some =
    let e : nat_le n (n - 1) ≡ false = grind (arith, nat_tests) in
    let k : SaidKey = record { level = n; word = w } in
    ap (λ c. if c then k ∷ [] else []) e
more_dropped n w (k ∷ ks) some = ap (λ l. if nat_le k.level (n - 1) then k ∷ l else l) (more_dropped n w ks some)

-- ---- a message and the arms around it

-- arms that have no key of a level and no key more
fresh_before : (text : List ℕ) (n : ℕ) (w : List ℕ) (ks : List SaidKey) (arms : Arms)
    → Fresh text n (ks ++ record { level = n; word = w } ∷ []) arms → Fresh text n ks arms
fresh_before text n w ks last h = tt
fresh_before text n w ks (arm v t more) h =
    (or_left _ _ (sym (key_more n (word_in text v) w ks) ∙ h.0), fresh_before text n w ks more h.1)

fresh_of : (text : List ℕ) (n : ℕ) (w : List ℕ) (ks : List SaidKey) (arms : Arms)
    → Fresh text n (ks ++ record { level = n; word = w } ∷ []) arms → arms_have text w arms ≡ false
fresh_of text n w ks last h = refl
fresh_of text n w ks (arm v t more) h =
    let e : same_bytes w (word_in text v) ≡ false = or_right (keys_have n (word_in text v) ks) _ (sym (key_more n (word_in text v) w ks) ∙ h.0) in
    ap (λ c. c || arms_have text w more) (same_turned (word_in text v) w ∙ e) ∙ fresh_of text n w ks more h.1

-- an arm more
with_arm : (text : List ℕ) (n : ℕ) (w : Word) (ks : List SaidKey) (ps : List Piece) (t : Tree) (around : Around) → length around ≡ n
    → ps ≡ pieces_in t (behind around) → 0 < n → keys_have n (word_in text w) ks ≡ false → Sound text t
    → Fits text n (ks ++ record { level = n; word = word_in text w } ∷ []) around → InArms text n ks (Arm w ∷ ps)
with_arm text n w ks ps t [] levels is some once sound fits = absurd (omega arith)
with_arm text n w ks ps t (x ∷ xs) levels is some once sound fits = record {
  arms = arm w t x.0;
  tree = x.1;
  around = xs;
  levels = levels;
  is = ap (λ l. Arm w ∷ l) is;
  has_other =
      or_assoc (keys_have n other ks) (same_bytes (word_in text w) other) (arms_have text other x.0)
      ∙ ap (λ c. c || arms_have text other x.0) (sym (key_more n other (word_in text w) ks)) ∙ fits.0;
  fresh = (once, fresh_before text n (word_in text w) ks x.0 fits.1);
  are_sound = (fresh_of text n (word_in text w) ks x.0 fits.1, sound, fits.2);
  sound = fits.3;
  fits = subst (λ l. Fits text (n - 1) l xs) (more_dropped n (word_in text w) ks some) fits.4;
}

-- a choice
with_choice : (text : List ℕ) (n : ℕ) (k : ChoiceKind) (w : Word) (ks : List SaidKey) (ps : List Piece) → Low n ks → InArms text (n + 1) ks ps
    → InMessage text n ks (Choice k w ∷ ps)
with_choice text n k w ks ps low x = record {
  tree = choice k w x.arms x.tree;
  around = x.around;
  levels = omega (arith, x.levels);
  is = ap (λ l. Choice k w ∷ l) x.is;
  sound = (sym (ap (λ c. c || arms_have text other x.arms) (none_above n other ks low)) ∙ x.has_other, x.are_sound, x.sound);
  fits =
      let less : (n + 1) - 1 ≡ n = omega arith in
      subst (λ l. Fits text n l x.around) (all_low n ks low) (subst (λ m. Fits text m (down_to m ks) x.around) less x.fits);
}

mutual
  in_message : (text : List ℕ) (n : ℕ) (ks : List SaidKey) (cs : List SaidChoice) (ps : List Piece) → Low n ks
      → IsNormalFrom false n ks cs (said_all text ps) → InMessage text n ks ps
  in_message text n ks cs [] low h = record { tree = done; around = []; levels = sym h; is = refl; sound = tt; fits = tt }
  in_message text n ks cs (Byte b ∷ ps) low h =
      let x = in_message text n ks cs ps low h.1 in
      record { tree = byte b x.tree; around = x.around; levels = x.levels; is = ap (λ l. Byte b ∷ l) x.is; sound = x.sound; fits = x.fits }
  in_message text n ks cs (Special b ∷ ps) low h =
      let x = in_message text n ks cs ps low h.1 in
      record { tree = special b x.tree; around = x.around; levels = x.levels; is = ap (λ l. Special b ∷ l) x.is; sound = x.sound; fits = x.fits }
  in_message text n ks cs (Place w ∷ ps) low h =
      let x = in_message text n ks cs ps low h.2 in
      record { tree = place w x.tree; around = x.around; levels = x.levels; is = ap (λ l. Place w ∷ l) x.is; sound = x.sound; fits = x.fits }
  in_message text n ks cs (Formatted w k ∷ ps) low h =
      let x = in_message text n ks _ ps low h.4 in
      record { tree = formatted w k x.tree; around = x.around; levels = x.levels; is = ap (λ l. Formatted w k ∷ l) x.is; sound = x.sound; fits = x.fits }
  in_message text n ks cs (Hash w ∷ ps) low h =
      let x = in_message text n ks cs ps low h.1 in
      record { tree = counted w x.tree; around = x.around; levels = x.levels; is = ap (λ l. Hash w ∷ l) x.is; sound = x.sound; fits = x.fits }
  in_message text n ks cs (Choice k w ∷ ps) low h =
      with_choice text n k w ks ps low (in_arms text (n + 1) ks _ ps (low_up n ks low) h.3 (omega arith))
  in_message text n ks cs (EndArm ∷ ps) low h =
      let x = in_arms text n ks cs ps low h.1 (grind (arith, nat_tests)) in
      record {
        tree = done;
        around = (x.arms, x.tree) ∷ x.around;
        levels = x.levels;
        is = ap (λ l. EndArm ∷ l) x.is;
        sound = tt;
        fits = (x.has_other, x.fresh, x.are_sound, x.sound, x.fits);
      }
  in_message text n ks cs (Arm w ∷ ps) low h = absurd h
  in_message text n ks cs (EndChoice ∷ ps) low h = absurd h

  in_arms : (text : List ℕ) (n : ℕ) (ks : List SaidKey) (cs : List SaidChoice) (ps : List Piece) → Low n ks
      → IsNormalFrom true n ks cs (said_all text ps) → 0 < n → InArms text n ks ps
  in_arms text n ks cs (Arm w ∷ ps) low h some =
      let x = in_message text n (ks ++ record { level = n; word = word_in text w } ∷ []) cs ps (low_added n (word_in text w) ks low) h.2 in
      with_arm text n w ks ps x.tree x.around x.levels x.is some h.1 x.sound x.fits
  in_arms text n ks cs (EndChoice ∷ ps) low h some =
      let x = in_message text (n - 1) (down_to (n - 1) ks) cs ps (low_down (n - 1) ks) h.1 in
      record {
        arms = last;
        tree = x.tree;
        around = x.around;
        levels = omega (arith, x.levels);
        is = ap (λ l. EndChoice ∷ l) x.is;
        has_other = or_true (keys_have n other ks) false h.0;
        fresh = tt;
        are_sound = tt;
        sound = x.sound;
        fits = x.fits;
      }
  in_arms text n ks cs [] low h some = absurd h
  in_arms text n ks cs (Byte b ∷ ps) low h some = absurd h
  in_arms text n ks cs (Special b ∷ ps) low h some = absurd h
  in_arms text n ks cs (Place w ∷ ps) low h some = absurd h
  in_arms text n ks cs (Formatted w k ∷ ps) low h some = absurd h
  in_arms text n ks cs (Hash w ∷ ps) low h some = absurd h
  in_arms text n ks cs (Choice k w ∷ ps) low h some = absurd h
  in_arms text n ks cs (EndArm ∷ ps) low h some = absurd h

nothing_around : (text : List ℕ) (ps : List Piece) (t : Tree) (around : Around) → length around ≡ 0 → ps ≡ pieces_in t (behind around)
    → Sound text t
    → (t : Tree) × (ps ≡ pieces_in t []) × Sound text t
nothing_around text ps t [] levels is sound = (t, is, sound)
nothing_around text ps t (x ∷ xs) levels is sound = absurd (omega arith)

-- the tree of what is read is sound
sound_tree : (text : List ℕ) (ps : List Piece) → IsNormalFrom false 0 [] [] (said_all text ps) → (t : Tree) × (ps ≡ pieces_in t []) × Sound text t
sound_tree text ps h = let x = in_message text 0 [] [] ps tt h in nothing_around text ps x.tree x.around x.levels x.is x.sound

pub read-is-tree : ReadIsTree
read-is-tree text ps h = let x = sound_tree text ps (pieces_are_normal text ps h) in (x.0, x.1)

-- ---- one arm

-- a choice that has `other` has the key that is picked
has_picked : (has : List ℕ → Bool) (key rest : List ℕ) (c : Bool) → has key ≡ c → has rest ≡ true → has (if c then key else rest) ≡ true
has_picked has key rest true e h = e
has_picked has key rest false e h = h

has_number : (has : List ℕ → Bool) (rules : List Rule) (n : Shown) → has other ≡ true → has (key_for_number has rules n) ≡ true
has_number has rules n h =
    let category : List ℕ = category_name (category_of rules n.operands) in
    has_picked has (exact_key n.whole) _ (has (exact_key n.whole)) refl (has_picked has category other (has category) refl h)

has_key_for : (f : Filling) (has : List ℕ → Bool) (k : ChoiceKind) (v : Option ArgumentValue) → has other ≡ true → has (key_for f has k v) ≡ true
has_key_for f has Plural (Some (Number n)) h = has_number has f.cardinal n.now h
has_key_for f has Plural (Some (Text t)) h = h
has_key_for f has Plural (Some (Form t n)) h = h
has_key_for f has Plural None h = h
has_key_for f has SelectOrdinal (Some (Number n)) h = has_number has f.ordinal n.now h
has_key_for f has SelectOrdinal (Some (Text t)) h = h
has_key_for f has SelectOrdinal (Some (Form t n)) h = h
has_key_for f has SelectOrdinal None h = h
has_key_for f has Select (Some (Text t)) h = has_picked has t.now other (has t.now) refl h
has_key_for f has Select (Some (Number n)) h = h
has_key_for f has Select (Some (Form t n)) h = h
has_key_for f has Select None h = h

none_with : (text key : List ℕ) (arms : Arms) → arms_have text key arms ≡ false → arms_with text key arms ≡ 0
none_with text key last h = refl
none_with text key (arm w t more) h =
    ap (λ c. if c then suc (arms_with text key more) else arms_with text key more) (or_left (same_bytes (word_in text w) key) _ h)
    ∙ none_with text key more (or_right (same_bytes (word_in text w) key) _ h)

-- where no key stands twice, one arm has a key
one_with : (text key : List ℕ) (arms : Arms) → AreSound text arms → arms_have text key arms ≡ true → arms_with text key arms ≡ 1
one_with text key last sound h = absurd (cc)
one_with text key (arm w t more) sound h = elim (both (same_bytes (word_in text w) key)) [
  | inl e ↦
      let is : word_in text w ≡ key = same_equal (word_in text w) key e in
      ap (λ c. if c then suc (arms_with text key more) else arms_with text key more) e
      ∙ ap (λ n. suc n) (none_with text key more (ap (λ v. arms_have text v more) (sym is) ∙ sound.0))
  | inr e ↦
      ap (λ c. if c then suc (arms_with text key more) else arms_with text key more) e
      ∙ one_with text key more sound.2 (sym (ap (λ c. c || arms_have text key more) e) ∙ h)
]

mutual
  picks_one : (f : Filling) (t : Tree) → Sound f.text t → PicksOne f t
  picks_one f done h = tt
  picks_one f (byte b t) h = picks_one f t h
  picks_one f (special b t) h = picks_one f t h
  picks_one f (place w t) h = picks_one f t h
  picks_one f (formatted w k t) h = picks_one f t h
  picks_one f (counted w t) h = picks_one f t h
  picks_one f (choice k w arms t) h = (
    one_with f.text (picked_key f k w arms) arms h.1 (has_key_for f (λ key. arms_have f.text key arms) k (named f w) h.0),
    arms_pick_one f arms h.1,
    picks_one f t h.2,
  )

  arms_pick_one : (f : Filling) (arms : Arms) → AreSound f.text arms → ArmsPickOne f arms
  arms_pick_one f last h = tt
  arms_pick_one f (arm w t more) h = (picks_one f t h.1, arms_pick_one f more h.2)

pub one-arm : OneArm
one-arm f ps h = let x = sound_tree f.text ps (pieces_are_normal f.text ps h) in (x.0, x.1, picks_one f x.0 x.2)
