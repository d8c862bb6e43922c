-- Where the groups of a list end.
use Rattle.std.specs.Prelude.{◌≡◌, ℕ, ◌+◌, ◌-◌, ◌%◌, ◌<◌, ◌≤◌, Bool, false, List, [], ◌∷◌, length, ◌==◌}
use Rattle.std.proofs.Common.{refl, sym, ◌∙◌, arith, add-one, inl, inr, Decides}
use Rattle.std.proofs.Math.Nat.{suc-mod, mod_self, mod-eq_of_lt, zero-mod}
use Rattle.std.proofs.lemmas.Nat.{mod_below}
use Rattle.std.proofs.lemmas.Bool.{eqb-true, eq-eqb}
use Rattle.std.proofs.lemmas.Bool.Decides.{eqb_tells}
use Rattle.writeable.specs.Groups.{put_before, cut}

-- the first group is full, so one more digit in front begins a group of its own
abbrev pub is_full : {A : Type 0} → ℕ → ℕ → List (List A) → Bool
is_full p s [] = false
is_full p s (g ∷ []) = length g == p
is_full p s (g ∷ h ∷ gs) = length g == s

-- the first group has the length that n items leave to it
abbrev pub FirstGroup : {A : Type 0} → ℕ → ℕ → ℕ → List (List A) → Type 0
FirstGroup p s n [] = n ≡ 0
FirstGroup p s n (g ∷ []) = (length g ≡ n) × (0 < n) × (n ≤ p)
FirstGroup p s n (g ∷ h ∷ gs) = (p < n) × (length g ≡ (n - p - 1) % s + 1)

-- where k leaves the greatest remainder, the next number leaves none
pub mod_more_full : (k s : ℕ) → k % s + 1 ≡ s → (k + 1) % s ≡ 0
mod_more_full k s e = rw (add-one k, suc-mod k s, ← add-one (k % s), e) (mod_self s)

-- where k leaves a lower remainder, the next number leaves one more
pub mod_more : (k s : ℕ) → 0 < s → ¬ (k % s + 1 ≡ s) → (k + 1) % s ≡ k % s + 1
mod_more k s h ne = rw (add-one k, suc-mod k s, ← add-one (k % s)) (mod-eq_of_lt (omega (arith, mod_below k s h)))

-- one more digit in front of n digits in groups
pub FirstGroup-put_before : {A : Type 0} (p s n : ℕ) (x : A) (gs : List (List A)) → 0 < p → 0 < s → FirstGroup p s n gs →
    FirstGroup p s (n + 1) (put_before p s x gs)
FirstGroup-put_before p s n x [] hp hs h = (omega arith, omega arith, omega arith)
FirstGroup-put_before p s n x (g ∷ []) hp hs h = elim (eqb_tells (length g) p) [
  | inl t ↦ let k : n + 1 - p - 1 ≡ 0 = omega arith in rw t.0 (omega arith, rw (k, zero-mod s) refl)
  | inr f ↦ rw f.0 (omega arith, omega arith, omega (arith, f.1))
]
FirstGroup-put_before p s n x (g ∷ h' ∷ gs) hp hs h =
    let k : n + 1 - p - 1 ≡ n - p - 1 + 1 = omega arith in
    elim (eqb_tells (length g) s) [
      | inl t ↦ rw t.0 (omega arith, rw (k, mod_more_full (n - p - 1) s (sym h.1 ∙ t.1)) refl)
      | inr f ↦ rw f.0 (omega arith, rw (k, mod_more (n - p - 1) s hs (λ e. f.1 (h.1 ∙ e))) (omega (arith, h.1)))
    ]

-- the first group of a list in groups has the length that `FirstGroup` says
pub FirstGroup-cut : {A : Type 0} (p s : ℕ) (xs : List A) → 0 < p → 0 < s → FirstGroup p s (length xs) (cut p s xs)
FirstGroup-cut p s [] hp hs = refl
FirstGroup-cut p s (x ∷ xs) hp hs = rw (← add-one (length xs)) (FirstGroup-put_before p s (length xs) x (cut p s xs) hp hs (FirstGroup-cut p s xs hp hs))

-- the first group is full exactly where the n items are the primary group and whole secondary groups
pub is_full-FirstGroup : {A : Type 0} (p s n : ℕ) (gs : List (List A)) → 0 < p → 0 < s → FirstGroup p s n gs →
    Decides (is_full p s gs) ((p ≤ n) × ((n - p) % s ≡ 0))
is_full-FirstGroup p s n [] hp hs h = (λ e. cc, λ q. absurd (omega arith))
is_full-FirstGroup p s n (g ∷ []) hp hs h = (
  λ e. let t = eqb-true (length g) p e in let k : n - p ≡ 0 = omega arith in
      (omega arith, rw (k, zero-mod s) refl),
  λ q. eq-eqb (length g) p (omega arith),
)
is_full-FirstGroup p s n (g ∷ h' ∷ gs) hp hs h =
    let k : n - p ≡ n - p - 1 + 1 = omega arith in (
      λ e. let t = eqb-true (length g) s e in (omega arith, rw k (mod_more_full (n - p - 1) s (sym h.1 ∙ t))),
      λ q. elim (eqb_tells (length g) s) [ inl t ↦ t.0 | inr f ↦ absurd (omega (arith, mod_more (n - p - 1) s hs (λ e. f.1 (h.1 ∙ e)), rw k at q.1)) ],
    )
