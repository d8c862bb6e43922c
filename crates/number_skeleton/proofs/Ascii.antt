-- Names are text.
use Rattle.std.proofs.Common.{◌≡◌, ℕ, zero, suc, ◌&&◌, Bool, true, false, List, [], ◌∷◌, ◌+◌, ◌<◌, ◌≤◌, length, drop}
use Rattle.std.proofs.Common.{get_or, refl, ap, ◌∙◌, arith, inl, inr, add-one, drop-cons, length-drop}
use Rattle.std.proofs.lemmas.Bool.Decides.{nat_tests}
use Rattle.std.proofs.lemmas.List.{nil_from_length}
use Rattle.std.specs.List.{list_all}
use Rattle.std.specs.Prelude.{if◌then◌else◌, ◌||◌, ◌==◌, not, ◌⊎◌, Some, None}
use Rattle.std.specs.Str.{IsAscii}
use Rattle.number_skeleton.specs.Bytes.{is_lower}
use Rattle.number_skeleton.specs.Options.{chosen, next_begins, name_from}

-- the parts of a test of all
pub and_left : (x y : Bool) → (x && y) ≡ true → x ≡ true
and_left true y h = refl
and_left false y h = absurd cc

pub and_right : (x y : Bool) → (x && y) ≡ true → y ≡ true
and_right true y h = h
and_right false y h = absurd cc

-- small letters and digits are ASCII
pub lower_ascii : (bs : List ℕ) → list_all is_lower bs ≡ true → IsAscii bs
lower_ascii [] h i = omega arith
lower_ascii (b ∷ bs) h zero = let here : is_lower b ≡ true = and_left (is_lower b) (list_all is_lower bs) h in grind (arith, nat_tests)
lower_ascii (b ∷ bs) h (suc i) = lower_ascii bs (and_right (is_lower b) (list_all is_lower bs) h) i

-- a byte of a name
abbrev pub is_name_byte : ℕ → Bool
is_name_byte b = is_lower b || b == 45

-- the first byte of a name, and what stands behind it
name_step : (x d n p q : Bool) → chosen (if x then Some false else if d && n then Some true else None) q p ≡ true → ((x || d) ≡ true) × ((p ≡ true)
    ⊎ (q ≡ true))
name_step true d n p q h = (refl, inl h)
name_step false true true p q h = (refl, inr h)
name_step false true false p q h = absurd cc
name_step false false n p q h = absurd cc

name_rest : (bs : List ℕ) → ((begins : Bool) → name_from begins bs ≡ true → list_all is_name_byte bs ≡ true) → ((name_from false bs ≡ true)
    ⊎ (name_from true bs ≡ true)) →
    list_all is_name_byte bs ≡ true
name_rest bs f (inl h) = f false h
name_rest bs f (inr h) = f true h

-- a name has such bytes alone
pub name_bytes : (begins : Bool) (bs : List ℕ) → name_from begins bs ≡ true → list_all is_name_byte bs ≡ true
unfolding name_from
name_bytes begins [] h = refl
name_bytes begins (b ∷ bs) h =
    let s = name_step (is_lower b) (b == 45) (not begins) (name_from false bs) (name_from true bs) h in
    rw (s.0, name_rest bs (λ c k. name_bytes c bs k) s.1) refl

bytes_ascii : (bs : List ℕ) → list_all is_name_byte bs ≡ true → IsAscii bs
bytes_ascii [] h i = omega arith
bytes_ascii (b ∷ bs) h zero = let here : is_name_byte b ≡ true = and_left (is_name_byte b) (list_all is_name_byte bs) h in grind (arith, nat_tests)
bytes_ascii (b ∷ bs) h (suc i) = bytes_ascii bs (and_right (is_name_byte b) (list_all is_name_byte bs) h) i

-- names are ASCII
pub name_ascii : (begins : Bool) (bs : List ℕ) → name_from begins bs ≡ true → IsAscii bs
name_ascii begins bs h = bytes_ascii bs (name_bytes begins bs h)

-- a byte of a name, and the rest
name_on : (b : ℕ) (begins : Bool) (bs : List ℕ) → name_from begins (b ∷ bs) ≡ chosen (next_begins b begins) (name_from true bs) (name_from false bs)
unfolding name_from
name_on b begins bs = refl

drop_on : (word : List ℕ) (i : ℕ) → i < length word → drop i word ≡ get_or word i 0 ∷ drop (i + 1) word
drop_on word i h = rw (add-one) (drop-cons word i 0 h)

module _ (word : List ℕ) (i : ℕ) (begins : Bool) (some : i < length word) where
  stepped : name_from begins (drop i word) ≡ chosen (next_begins (get_or word i 0) begins) (name_from true (drop (i + 1) word)) (name_from false (drop (i +
      1) word))
  stepped = ap (name_from begins) (drop_on word i some) ∙ name_on (get_or word i 0) begins (drop (i + 1) word)

  -- a byte that can't stand here
  pub name_ends : next_begins (get_or word i 0) begins ≡ None → name_from begins (drop i word) ≡ false
  name_ends h = stepped ∙ rw h refl

  -- a byte that can
  pub name_goes_on : (next : Bool) → next_begins (get_or word i 0) begins ≡ Some next → name_from begins (drop i word) ≡ name_from next (drop (i + 1)
      word)
  name_goes_on true h = stepped ∙ rw h refl
  name_goes_on false h = stepped ∙ rw h refl

-- behind the last byte
pub name_end : (word : List ℕ) (i : ℕ) (begins : Bool) → length word ≤ i → name_from begins (drop i word) ≡ not begins
unfolding name_from
name_end word i begins h = let e : drop i word ≡ [] = nil_from_length (drop i word) (omega (arith, length-drop i word)) in rw e refl
