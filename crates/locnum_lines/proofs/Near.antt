-- The names that are nearest to another one, name by name.
use Rattle.std.proofs.Common.{◌≡◌, ℕ, ◌+◌, ◌<◌, ◌≤◌, Bool, true, false, List, [], ◌∷◌, ◌++◌, length, drop, take, get_or, map}
use Rattle.std.proofs.Common.{refl, sym, ap, ◌∙◌, arith, append_assoc}
use Rattle.std.specs.Prelude.{if◌then◌else◌}
use Rattle.std.proofs.lemmas.List.{drop-map, drop_all, drop_more, get_or-map, length-map, map-append, take-map, take_more}
use Rattle.locnum_lines.specs.Nearest.{is_nearer, nearest, nearest_of, with_name}

module _ {V : Type 0} (f : V → List ℕ) (wanted name : List ℕ) (near : List V) (i : ℕ)
    (all : with_name wanted name (map f near) ≡ take i (map f near) ++ with_name wanted name (drop i (map f near))) where
  module _ (d : V) (r : Bool) (inside : i < length near) (is : r ≡ is_nearer wanted name (f (get_or near i d))) where
    within : i < length (map f near)
    within = omega (arith, length-map near f, inside)

    rest : drop i (map f near) ≡ f (get_or near i d) ∷ drop (i + 1) (map f near)
    rest = drop_more (map f near) i [] within ∙ ap (λ (x : List ℕ). x ∷ drop (i + 1) (map f near)) (get_or-map f near i d [] inside)

    front : take (i + 1) (map f near) ≡ take i (map f near) ++ f (get_or near i d) ∷ []
    front = take_more (map f near) i [] within ∙ ap (λ (x : List ℕ). take i (map f near) ++ x ∷ []) (get_or-map f near i d [] inside)

    -- in front of a name that is farther away
    pub name-here : r ≡ true → with_name wanted name (map f near) ≡ take i (map f near) ++ name ∷ drop i (map f near)
    unfolding with_name
    name-here nearer = all ∙ ap (λ (k : List (List ℕ)). take i (map f near) ++ k) (rw rest (rw (sym is ∙ nearer) refl))

    -- behind one that is as near
    pub name-behind : r ≡ false → with_name wanted name (map f near) ≡ take (i + 1) (map f near) ++ with_name wanted name (drop (i + 1) (map f near))
    unfolding with_name
    name-behind farther =
        let behind : List (List ℕ) = drop (i + 1) (map f near) in
        let other : List ℕ = f (get_or near i d) in
        all ∙ ap (λ (k : List (List ℕ)). take i (map f near) ++ with_name wanted name k) rest
        ∙ ap (λ (b : Bool). take i (map f near) ++ (if b then name ∷ other ∷ behind else other ∷ with_name wanted name behind)) (sym is ∙ farther)
        ∙ sym (append_assoc (take i (map f near)) (other ∷ []) (with_name wanted name behind))
        ∙ ap (λ (k : List (List ℕ)). k ++ with_name wanted name behind) (sym front)

  -- behind all
  pub name-last : length near ≤ i → with_name wanted name (map f near) ≡ take i (map f near) ++ name ∷ drop i (map f near)
  unfolding with_name
  name-last past =
      let none : drop i (map f near) ≡ [] = drop_all i (map f near) (omega (arith, length-map near f, past)) in
      all ∙ ap (λ (k : List (List ℕ)). take i (map f near) ++ k) (rw none refl)

-- a name more is taken in
pub nearest-more : {V : Type 0} (f : V → List ℕ) (wanted name : List ℕ) (near near' : List V) (names : List (List ℕ)) (whole : List (List ℕ)) →
    whole ≡ nearest_of wanted (map f near) (name ∷ names) → map f near' ≡ take 5 (with_name wanted name (map f near))
    → whole ≡ nearest_of wanted (map f near') names
unfolding nearest_of
nearest-more f wanted name near near' names whole all taken = all ∙ ap (λ (k : List (List ℕ)). nearest_of wanted k names) (sym taken)

-- none is left
pub nearest-all : (wanted : List ℕ) (near : List (List ℕ)) → nearest_of wanted near [] ≡ near
unfolding nearest_of
nearest-all wanted near = refl

-- no name was taken in yet
pub nearest-start : (wanted : List ℕ) (header : List (List ℕ)) → nearest wanted header ≡ nearest_of wanted [] header
nearest-start wanted header = refl

-- a name is put in its position, and five are kept
pub name-inserted : {V : Type 0} (f : V → List ℕ) (wanted name : List ℕ) (near more kept : List V) (i : ℕ) (v : V) → f v ≡ name
    → with_name wanted name (map f near) ≡ take i (map f near) ++ name ∷ drop i (map f near)
    → more ≡ take i near ++ v ∷ drop i near → kept ≡ take 5 more → map f kept ≡ take 5 (with_name wanted name (map f near))
name-inserted f wanted name near more kept i v is position inserted five =
    let all : map f more ≡ with_name wanted name (map f near) =
    ap (map f) inserted ∙ map-append f (take i near) (v ∷ drop i near)
    ∙ ap (λ (k : List (List ℕ)). k ++ f v ∷ map f (drop i near)) (sym (take-map f i near))
    ∙ ap (λ (k : List (List ℕ)). take i (map f near) ++ f v ∷ k) (sym (drop-map f i near))
    ∙ ap (λ (x : List ℕ). take i (map f near) ++ x ∷ drop i (map f near)) is ∙ sym position in
    ap (map f) five ∙ sym (take-map f 5 more) ∙ ap (λ (k : List (List ℕ)). take 5 k) all
