-- Lines that are explained one behind the other: what was written so far, and what is left.
use Rattle.std.proofs.Common.{◌≡◌, ℕ, suc, ◌+◌, ◌<◌, ◌≤◌, Bool, true, false, Bor, List, [], subst}
use Rattle.std.proofs.Common.{◌∷◌, ◌++◌, length, map, drop, get_or, refl, sym, ap, ◌∙◌}
use Rattle.std.proofs.Common.{add-one, append_assoc}
use Rattle.std.proofs.Math.Seq.{drop-cons}
use Rattle.std.proofs.lemmas.List.{append-nil, drop-map, drop_all}
use Rattle.std.specs.Prelude.{◌&&◌, ◌||◌, if◌then◌else◌}
use Rattle.number_forms.specs.Forms.{FormData}
use Rattle.locnum_explain.specs.declared.settings.Settings.{Settings}
use Rattle.locnum_explain.specs.Texts.{is_line_refused, is_one_refused, line_explained, lines_explained}

-- what is written for all lines is what was written, and then what is left; and one of them is rejected where one was or one that is left is
pub record Explains (settings : Settings) (stops : Bool) (form : FormData) (old out : List ℕ) (is_refused : Bool) (all rest : List (List ℕ)) : Type 0 where
  pub written : old ++ lines_explained settings stops form all ≡ out ++ lines_explained settings stops form rest
  pub refused : is_one_refused form all ≡ (is_refused || is_one_refused form rest)

module _ (settings : Settings) (stops : Bool) (form : FormData) (old out : List ℕ) (is_refused : Bool) (all : List (List ℕ)) where
  -- nothing was written yet
  pub Explains-start : Explains settings stops form old old false all all
  Explains-start = record { written = refl; refused = refl }

  module _ (line : List ℕ) (rest : List (List ℕ)) (i : Explains settings stops form old out is_refused all (line ∷ rest)) (r : Bool)
      (is : r ≡ is_line_refused form line) (out' : List ℕ) (told : out' ≡ out ++ line_explained settings form line) where
    -- one line more, at which it doesn't stop
    pub Explains-goes : (stops && r) ≡ false → (is_refused' : Bool) → is_refused' ≡ (is_refused || r)
        → Explains settings stops form old out' is_refused' all rest
    unfolding lines_explained
    Explains-goes on is_refused' same = record {
      written = i.written
          ∙ ap (λ (b : Bool). out ++
          (if b then line_explained settings form line else line_explained settings form line ++ lines_explained settings stops form rest))
          (ap (λ (b : Bool). stops && b) (sym is) ∙ on)
          ∙ joined out (line_explained settings form line) (lines_explained settings stops form rest)
          ∙ ap (λ (xs : List ℕ). xs ++ lines_explained settings stops form rest) (sym told);
      refused = i.refused ∙ ap (λ (b : Bool). is_refused || (b || is_one_refused form rest)) (sym is)
          ∙ regroup is_refused r (is_one_refused form rest) ∙ ap (λ (b : Bool). b || is_one_refused form rest) (sym same);
    }
      where
        joined : (a b c : List ℕ) → a ++ (b ++ c) ≡ (a ++ b) ++ c
        joined a b c = simp append_assoc

        regroup : (a b c : Bool) → (a || (b || c)) ≡ ((a || b) || c)
        regroup true b c = refl
        regroup false b c = refl

    -- the line at which it stops
    pub Explains-stops : (stops && r) ≡ true → out' ≡ old ++ lines_explained settings stops form all
    unfolding lines_explained
    Explains-stops ends = told
        ∙ sym (i.written
        ∙ ap (λ (b : Bool). out ++
        (if b then line_explained settings form line else line_explained settings form line ++ lines_explained settings stops form rest))
        (ap (λ (b : Bool). stops && b) (sym is) ∙ ends))

    pub Explains-stops-refused : (stops && r) ≡ true → true ≡ is_one_refused form all
    Explains-stops-refused ends =
        sym (i.refused ∙ ap (λ (b : Bool). is_refused || (b || is_one_refused form rest)) (sym is ∙ right stops r ends) ∙ last is_refused)
      where
        right : (a b : Bool) → (a && b) ≡ true → b ≡ true
        right true b e = e
        right false b e = absurd cc

        last : (a : Bool) → (a || (true || is_one_refused form rest)) ≡ true
        last true = refl
        last false = refl

  module _ (i : Explains settings stops form old out is_refused all []) where
    -- the end
    pub Explains-ends : out ≡ old ++ lines_explained settings stops form all
    unfolding lines_explained
    Explains-ends = sym (i.written ∙ append-nil out)

    pub Explains-ends-refused : is_refused ≡ is_one_refused form all
    Explains-ends-refused = sym (i.refused ∙ last is_refused)
      where
        last : (a : Bool) → (a || false) ≡ a
        last true = refl
        last false = refl

-- the texts that are lent
abbrev pub texts : List (Bor (List ℕ)) → List (List ℕ)
texts xs = map (λ (x : Bor (List ℕ)). x.now) xs

-- the lines that are left, where one is
left-one : (xs : List (Bor (List ℕ))) (i : ℕ) (d : Bor (List ℕ)) (line : List ℕ) → i < length xs → line ≡ (get_or xs i d).now
    → drop i (texts xs) ≡ line ∷ drop (i + 1) (texts xs)
left-one xs i d line h is =
    let first : drop i (texts xs) ≡ (get_or xs i d).now ∷ texts (drop (suc i) xs) =
    drop-map (λ (x : Bor (List ℕ)). x.now) i xs ∙ ap texts (drop-cons xs i d h) in
    let rest : texts (drop (suc i) xs) ≡ drop (suc i) (texts xs) = sym (drop-map (λ (x : Bor (List ℕ)). x.now) (suc i) xs) in
    rw add-one (first ∙ ap (λ (y : List ℕ). y ∷ texts (drop (suc i) xs)) (sym is) ∙ ap (λ (ys : List (List ℕ)). line ∷ ys) rest)

module _ (settings : Settings) (stops : Bool) (form : FormData) (old out : List ℕ) (is_refused : Bool) (xs : List (Bor (List ℕ))) (i : ℕ)
    (so_far : Explains settings stops form old out is_refused (texts xs) (drop i (texts xs))) where
  -- where a line is left
  pub Explains-next : (d : Bor (List ℕ)) (line : List ℕ) → i < length xs → line ≡ (get_or xs i d).now
      → Explains settings stops form old out is_refused (texts xs) (line ∷ drop (i + 1) (texts xs))
  Explains-next d line h is =
      subst (λ (rest : List (List ℕ)). Explains settings stops form old out is_refused (texts xs) rest) (left-one xs i d line h is) so_far

  -- and where none is
  pub Explains-last : length xs ≤ i → Explains settings stops form old out is_refused (texts xs) []
  Explains-last h = subst (λ (rest : List (List ℕ)). Explains settings stops form old out is_refused (texts xs) rest)
      (drop-map (λ (x : Bor (List ℕ)). x.now) i xs ∙ ap texts (drop_all i xs h)) so_far
