-- No group of digits is empty.
use Rattle.std.proofs.Common.{◌≡◌, ◌≢◌, ℕ, ◌==◌, true, false, List, [], ◌∷◌, length, if◌then◌else◌}
use Rattle.icu_decimal_options.specs.declared.options.GroupingStrategy.{GroupingStrategy}
use Rattle.icu_decimal_options.specs.Grouping.{concatenated, put_before, cut, secondary_size, is_grouped, digit_groups}
use Rattle.icu_decimal_data.specs.declared.grouping_sizes.GroupingSizes.{GroupingSizes}
use Rattle.icu_decimal.proofs.Runs.{Every, Runs}

run_first : (D : ℕ → Type 0) (g : List ℕ) (gs : List (List ℕ)) → Runs D (g ∷ gs) → Every D g × Runs D gs
run_first D [] gs h = absurd h
run_first D (x ∷ g) gs h = ((h.0, h.1), h.2)

runs-put_before : (D : ℕ → Type 0) (p s x : ℕ) (gs : List (List ℕ)) → D x → Runs D gs → Runs D (put_before p s x gs)
runs-put_before D p s x [] hx h = (hx, tt, tt)
runs-put_before D p s x (g ∷ []) hx h =
    elim (length g == p) as (λ b. Runs D (if b then (x ∷ []) ∷ g ∷ [] else (x ∷ g) ∷ []))
    [ true ↦ (hx, tt, h) | false ↦ (hx, (run_first D g [] h).0, tt) ]
runs-put_before D p s x (g ∷ k ∷ gs) hx h =
    elim (length g == s) as (λ b. Runs D (if b then (x ∷ []) ∷ g ∷ k ∷ gs else (x ∷ g) ∷ k ∷ gs))
    [ true ↦ (hx, tt, h) | false ↦ (hx, (run_first D g (k ∷ gs) h).0, (run_first D g (k ∷ gs) h).1) ]

runs-cut : (D : ℕ → Type 0) (p s : ℕ) (xs : List ℕ) → Every D xs → Runs D (cut p s xs)
runs-cut D p s [] h = tt
runs-cut D p s (x ∷ xs) h = runs-put_before D p s x (cut p s xs) h.0 (runs-cut D p s xs h.1)

-- no group of some digits is empty
pub runs-groups : (D : ℕ → Type 0) (s : GroupingSizes) (strategy : GroupingStrategy) (x : ℕ) (xs : List ℕ) → Every D (x ∷ xs) →
    Runs D (digit_groups (x ∷ xs) s strategy)
runs-groups D s strategy x xs h =
    elim (is_grouped (length (x ∷ xs)) s strategy) as (λ b. Runs D (if b then cut s.primary (secondary_size s) (x ∷ xs) else (x ∷ xs) ∷ []))
    [ true ↦ runs-cut D s.primary (secondary_size s) (x ∷ xs) h | false ↦ (h.0, h.1, tt) ]

-- groups that hold a digit are not none
pub some_groups : (gs : List (List ℕ)) (x : ℕ) (xs : List ℕ) → concatenated gs ≡ x ∷ xs → gs ≢ []
some_groups [] x xs e none = cc
some_groups (g ∷ gs) x xs e none = cc
