-- What a walk through a map finds.
use Rattle.std.proofs.Common.{◌≡◌, ℕ, suc, ◌+◌, ◌<◌, ⊎_elim, min, true, false, refl, arith, sym, ap, ◌∙◌, List, [], ◌∷◌, length}
use Rattle.std.proofs.Common.{Option, Some, None, slice_index_or, drop, drop-cons, add-one, sum_by}
use Rattle.std.proofs.lemmas.Bool.{cases_Bool}
use Rattle.std.proofs.lemmas.List.Sums.{sum_by-cons}
use Rattle.icu_pattern.specs.Patterns.{PatternText}
use Rattle.icu_decimal_data.specs.CompactFaults.{slot_size}
use Rattle.icu_plurals.specs.Elements.{without_explicit_one}
use Rattle.icu_decimal_data.specs.CompactTable.{PatternElements, TableEntry}
use Rattle.icu_decimal_data.specs.Kept.{kept, changes, repeats, is_zero_magnitude, same_patterns}
use Rattle.icu_decimal_data.specs.KeptSince.{kept_since}
use Rattle.icu_decimal_data.proofs.SameEntries.{the_same}

-- one more slot is counted, as far as the count fits
pub size_step : (slots : List (Option PatternText)) (k size most : ℕ) → k < length slots
    → min (min (size + slot_size (slice_index_or slots k None)) most + sum_by slot_size (drop (k + 1) slots)) most
    ≡ min (size + sum_by slot_size (drop k slots)) most
size_step slots k size most h =
    let parts : sum_by slot_size (drop k slots) ≡ slot_size (slice_index_or slots k None) + sum_by slot_size (drop (k + 1) slots) =
    rw (add-one, drop-cons slots k None h) (sum_by-cons slot_size (slice_index_or slots k None) (drop (suc k) slots)) in
    omega arith

-- comparing with the last kept one is comparing with the one just before
after : (zero_magnitude : Option PatternElements) (last before : TableEntry) (es : List TableEntry) →
    without_explicit_one before.elements ≡ without_explicit_one last.elements
    → kept_since zero_magnitude (Some last.elements) es ≡ changes before es
after zero_magnitude last before [] h = refl
after zero_magnitude last before (e ∷ es) h =
    ⊎_elim
    (λ (r : repeats before e ≡ true).
    let s : same_patterns (without_explicit_one last.elements) e.elements ≡ true = ap (λ (x : PatternElements). same_patterns x e.elements) (sym h) ∙ r in
    let same : without_explicit_one e.elements ≡ without_explicit_one last.elements =
    ap without_explicit_one (sym (the_same (without_explicit_one last.elements) e.elements s)) in
    rw (r, s) (after zero_magnitude last e es same))
    (λ (r : repeats before e ≡ false).
    let s : same_patterns (without_explicit_one last.elements) e.elements ≡ false = ap (λ (x : PatternElements). same_patterns x e.elements) (sym h) ∙ r in
    rw (r, s) (ap (λ (fs : List TableEntry). e ∷ fs) (after zero_magnitude e e es refl)))
    (cases_Bool (repeats before e))

-- with nothing kept before, what a walk keeps is what is kept
pub kept_since_start : (zero_magnitude : Option PatternElements) (es : List TableEntry) → kept_since zero_magnitude None es ≡ kept zero_magnitude es
kept_since_start zero_magnitude [] = refl
kept_since_start zero_magnitude (e ∷ es) =
    ⊎_elim
    (λ (z : is_zero_magnitude zero_magnitude e.elements ≡ true). rw z (kept_since_start zero_magnitude es))
    (λ (z : is_zero_magnitude zero_magnitude e.elements ≡ false). rw z (ap (λ (fs : List TableEntry). e ∷ fs) (after zero_magnitude e e es refl)))
    (cases_Bool (is_zero_magnitude zero_magnitude e.elements))
