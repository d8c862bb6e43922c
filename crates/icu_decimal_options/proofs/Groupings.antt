-- Where the groups of a list end.
use Rattle.std.specs.Prelude.{◌≡◌, ℕ, ◌<◌, Bool, true, false, List, [], ◌∷◌, ◌++◌, length, if◌then◌else◌, ◌==◌, ◌↔◌}
use Rattle.std.proofs.Common.{refl, sym, ap, ◌∙◌, ◌⊎◌, arith, inl, inr}
use Rattle.std.proofs.lemmas.Bool.Decides.{eqb_tells}
use Rattle.icu_decimal_options.specs.Grouping.{concatenated, put_before, cut, EndsGroup}
pub use Rattle.writeable.proofs.Groupings.{is_full, FirstGroup, FirstGroup-cut, is_full-FirstGroup}
pub use Rattle.writeable.specs.Counted.{IsDue}

-- an element put before groups is put before what they make together
pub concatenated-put_before : {A : Type 0} (p s : ℕ) (x : A) (gs : List (List A)) → concatenated (put_before p s x gs) ≡ x ∷ concatenated gs
concatenated-put_before p s x [] = refl
concatenated-put_before p s x (g ∷ []) = elim (length g == p) as
    (λ b. concatenated (if b then (x ∷ []) ∷ g ∷ [] else (x ∷ g) ∷ []) ≡ x ∷ concatenated (g ∷ [])) [ true ↦ refl | false ↦ refl ]
concatenated-put_before p s x (g ∷ h ∷ gs) = elim (length g == s) as
    (λ b. concatenated (if b then (x ∷ []) ∷ g ∷ h ∷ gs else (x ∷ g) ∷ h ∷ gs) ≡ x ∷ concatenated (g ∷ h ∷ gs))
    [ true ↦ refl | false ↦ refl ]

-- the groups are the digits
pub concatenated-cut : {A : Type 0} (p s : ℕ) (xs : List A) → concatenated (cut p s xs) ≡ xs
concatenated-cut p s [] = refl
concatenated-cut {A = A} p s (x ∷ xs) = concatenated-put_before p s x (cut p s xs) ∙ ap (λ (k : List A). x ∷ k) (concatenated-cut p s xs)

-- a group other than the last ends with the digit at m
abbrev Ends : {A : Type 0} → List (List A) → ℕ → Type 0
Ends [] m = ⊥
Ends (g ∷ []) m = ⊥
Ends (g ∷ h ∷ gs) m = (m ≡ length (concatenated (h ∷ gs))) ⊎ Ends (h ∷ gs) m

EndsGroup-from : {A : Type 0} (gs : List (List A)) (m : ℕ) → Ends gs m → EndsGroup gs m
EndsGroup-from [] m e = absurd e
EndsGroup-from (g ∷ []) m e = absurd e
EndsGroup-from (g ∷ h ∷ gs) m (inl e) = record { before = []; group = g; next = h; after = gs; parts = refl; digits_after = sym e }
EndsGroup-from {A = A} (g ∷ h ∷ gs) m (inr e) =
    let later = EndsGroup-from (h ∷ gs) m e in
    record {
      before = g ∷ later.before;
      group = later.group;
      next = later.next;
      after = later.after;
      parts =
          ap (λ (k : List (List A)). g ∷ k) later.parts;
      digits_after = later.digits_after;
    }

Ends-between : {A : Type 0} (before : List (List A)) (group next : List A) (after : List (List A)) →
    Ends (before ++ group ∷ next ∷ after) (length (concatenated (next ∷ after)))
Ends-between [] group next after = inl refl
Ends-between (b ∷ []) group next after = inr (inl refl)
Ends-between (b ∷ c ∷ before) group next after = inr (Ends-between (c ∷ before) group next after)

EndsGroup-to : {A : Type 0} (gs : List (List A)) (m : ℕ) → EndsGroup gs m → Ends gs m
EndsGroup-to gs m e = rw (e.parts, ← e.digits_after) (Ends-between e.before e.group e.next e.after)

-- one digit in front
one_group : {A : Type 0} (b : Bool) (x : A) (g : List A) (m : ℕ) →
    Ends (if b then (x ∷ []) ∷ g ∷ [] else (x ∷ g) ∷ []) m ↔ (Ends (g ∷ []) m ⊎ ((b ≡ true) × (m ≡ length (concatenated (g ∷ [])))))
one_group true x g m = (λ e. elim e [ inl a ↦ inr (refl, a) | inr z ↦ absurd z ], λ e. elim e [ inl z ↦ absurd z | inr q ↦ inl q.1 ])
one_group false x g m = (λ e. absurd e, λ e. elim e [ inl z ↦ absurd z | inr q ↦ absurd (cc q.0) ])

more_groups : {A : Type 0} (b : Bool) (x : A) (g h : List A) (gs : List (List A)) (m : ℕ) →
    Ends (if b then (x ∷ []) ∷ g ∷ h ∷ gs else (x ∷ g) ∷ h ∷ gs) m ↔
    (Ends (g ∷ h ∷ gs) m ⊎ ((b ≡ true) × (m ≡ length (concatenated (g ∷ h ∷ gs)))))
more_groups true x g h gs m = (λ e. elim e [ inl a ↦ inr (refl, a) | inr z ↦ inl z ], λ e. elim e [ inl z ↦ inr z | inr q ↦ inl q.1 ])
more_groups false x g h gs m = (λ e. inl e, λ e. elim e [ inl z ↦ z | inr q ↦ absurd (cc q.0) ])

Ends-put_before : {A : Type 0} (p s : ℕ) (x : A) (gs : List (List A)) (m : ℕ) →
    Ends (put_before p s x gs) m ↔ (Ends gs m ⊎ ((is_full p s gs ≡ true) × (m ≡ length (concatenated gs))))
Ends-put_before p s x [] m = (λ e. absurd e, λ e. elim e [ inl z ↦ absurd z | inr q ↦ absurd (cc q.0) ])
Ends-put_before p s x (g ∷ []) m = one_group (length g == p) x g m
Ends-put_before p s x (g ∷ h ∷ gs) m = more_groups (length g == s) x g h gs m

Ends-cut : {A : Type 0} (p s : ℕ) (xs : List A) (m : ℕ) → 0 < p → 0 < s → Ends (cut p s xs) m ↔ ((m < length xs) × IsDue p s m)
Ends-cut p s [] m hp hs = (λ e. absurd e, λ q. absurd (omega arith))
Ends-cut p s (x ∷ xs) m hp hs =
    let step = Ends-put_before p s x (cut p s xs) m in
    let rest = Ends-cut p s xs m hp hs in
    let full = is_full-FirstGroup p s (length xs) (cut p s xs) hp hs (FirstGroup-cut p s xs hp hs) in
    let len : length (concatenated (cut p s xs)) ≡ length xs = ap length (concatenated-cut p s xs) in (
      λ e. elim (step.0 e) [
        | inl later ↦ let r = rest.0 later in (omega (arith, r.0), r.1)
        | inr here ↦ let at : m ≡ length xs = here.1 ∙ len in (omega (arith, at), rw at (full.0 here.0))
      ],
      λ q. elim (eqb_tells m (length xs)) [
        | inl t ↦ step.1 (inr (full.1 (rw t.1 at q.1), t.1 ∙ sym len))
        | inr f ↦ step.1 (inl (rest.1 (omega (arith, q.0, f.1), q.1)))
      ],
    )

-- the groups that `cut` gives end where whole groups are left
pub EndsGroup-cut : (p s : ℕ) (xs : List ℕ) (m : ℕ) → 0 < p → 0 < s → m < length xs → EndsGroup (cut p s xs) m ↔ IsDue p s m
EndsGroup-cut p s xs m hp hs h = (
  λ e. ((Ends-cut p s xs m hp hs).0 (EndsGroup-to (cut p s xs) m e)).1,
  λ d. EndsGroup-from (cut p s xs) m ((Ends-cut p s xs m hp hs).1 (h, d)),
)
