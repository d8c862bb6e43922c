-- What is kept of a map without a fault is a table.
use Rattle.std.proofs.Common.{◌≡◌, ℕ, ◌+◌, ◌<◌, ◌≤◌, ⊎_elim, true, false, refl, arith, List, [], ◌∷◌, Option, None, All, AllPairs}
use Rattle.std.proofs.Common.{nat_lt, ltb-false}
use Rattle.std.specs.List.{AllByRecursion}
use Rattle.std.specs.List.Sorted.{IsStrictlySortedBy}
use Rattle.std.specs.Map.{keys_of}
use Rattle.std.specs.Ordering.{nat_cmp}
use Rattle.std.specs.declared.cmp.Ordering.TheVariants.{Less}
use Rattle.std.proofs.lemmas.Bool.{cases_Bool, or_parts}
use Rattle.std.proofs.lemmas.Cmp.{ranked}
use Rattle.std.proofs.lemmas.List.Kept.{AllPairs-cons}
use Rattle.std.proofs.lemmas.List.Elements.{All-nil, All-cons}
use Rattle.std.proofs.lemmas.Map.Keys.{sorted_head, sorted_tail}
use Rattle.icu_decimal_data.specs.CompactTable.{PatternElements, TableEntry, IsCompactTable}
use Rattle.icu_decimal_data.specs.Kept.{as_table, kept, changes, repeats, is_zero_magnitude}
use Rattle.icu_decimal_data.specs.CompactFaults.{fault_of, falls_after, has_falling_exponents, entry_fault, first_entry_fault}
use Rattle.icu_decimal_data.proofs.EntryFaults.{none_or, sound_entry, no_entry_fault}

-- each entry has the property
abbrev pub Each : (TableEntry → Type 0) → List TableEntry → Type 0
Each P [] = Unit {0}
Each P (e ∷ es) = P e × Each P es

-- each entry is so related to each later one
abbrev pub Pairs : (TableEntry → TableEntry → Type 0) → List TableEntry → Type 0
Pairs R [] = Unit {0}
Pairs R (e ∷ es) = Each (R e) es × Pairs R es

-- what holds of each by recursion holds of all
pub all_each : (P : TableEntry → Type 0) (es : List TableEntry) → Each P es → All P es
all_each P [] h = All-nil P
all_each P (e ∷ es) h = All-cons P e es h.0 (all_each P es h.1)

-- the same of pairs
pub all_pairs : (R : TableEntry → TableEntry → Type 0) (es : List TableEntry) → Pairs R es → AllPairs R es
all_pairs R [] h = λ i j d l g. absurd (omega arith)
all_pairs R (e ∷ es) h = AllPairs-cons R e es (all_each (R e) es h.0) (all_pairs R es h.1)

-- what follows from what holds of each holds of each
pub each_weaker : (P Q : TableEntry → Type 0) → ((e : TableEntry) → P e → Q e) → (es : List TableEntry) → Each P es → Each Q es
each_weaker P Q w [] h = tt
each_weaker P Q w (e ∷ es) h = (w e h.0, each_weaker P Q w es h.1)

each_changes : (P : TableEntry → Type 0) (before : TableEntry) (es : List TableEntry) → Each P es → Each P (changes before es)
each_changes P before [] h = tt
each_changes P before (e ∷ es) h =
    ⊎_elim
    (λ (r : repeats before e ≡ true). rw r (each_changes P e es h.1))
    (λ (r : repeats before e ≡ false). rw r (h.0, each_changes P e es h.1))
    (cases_Bool (repeats before e))

pairs_changes : (R : TableEntry → TableEntry → Type 0) (before : TableEntry) (es : List TableEntry) → Pairs R es → Pairs R (changes before es)
pairs_changes R before [] h = tt
pairs_changes R before (e ∷ es) h =
    ⊎_elim
    (λ (r : repeats before e ≡ true). rw r (pairs_changes R e es h.1))
    (λ (r : repeats before e ≡ false). rw r (each_changes (R e) e es h.0, pairs_changes R e es h.1))
    (cases_Bool (repeats before e))

-- what holds of all pairs of a map holds of those that are kept
pub pairs_kept : (R : TableEntry → TableEntry → Type 0) (zero_magnitude : Option PatternElements) (es : List TableEntry) → Pairs R es
    → Pairs R (kept zero_magnitude es)
pairs_kept R zero_magnitude [] h = tt
pairs_kept R zero_magnitude (e ∷ es) h =
    ⊎_elim
    (λ (z : is_zero_magnitude zero_magnitude e.elements ≡ true). rw z (pairs_kept R zero_magnitude es h.1))
    (λ (z : is_zero_magnitude zero_magnitude e.elements ≡ false). rw z (each_changes (R e) e es h.0, pairs_changes R e es h.1))
    (cases_Bool (is_zero_magnitude zero_magnitude e.elements))

types_above : (k : ℕ) (es : List (ℕ × (ℕ × PatternElements))) → AllByRecursion (λ y. nat_cmp k y ≡ Less) (keys_of es) →
    Each (λ e. k < e.log10_type) (as_table es)
types_above k [] h = tt
types_above k (e ∷ es) h = (less k e.0 h.0, types_above k es h.1)
  where
    less : (x y : ℕ) → nat_cmp x y ≡ Less → x < y
    less x y h = rw h at (ranked x y (nat_cmp x y) refl)

-- the types of a sorted map rise
pub types_rise : (es : List (ℕ × (ℕ × PatternElements))) → IsStrictlySortedBy nat_cmp (keys_of es) →
    Pairs (λ e f. e.log10_type < f.log10_type) (as_table es)
types_rise [] h = tt
types_rise (e ∷ es) h = (types_above e.0 es (sorted_head nat_cmp e.0 (keys_of es) h), types_rise es (sorted_tail nat_cmp e.0 (keys_of es) h))

-- without a fall exponents rise from a lower bound on
exponents_never_fall : (low : ℕ) (es : List TableEntry) → falls_after low es ≡ false →
    Each (λ e. low ≤ e.exponent) es × Pairs (λ e f. e.exponent ≤ f.exponent) es
exponents_never_fall low [] h = (tt, tt)
exponents_never_fall low (e ∷ es) h =
    let parts = or_parts (nat_lt e.exponent low) (falls_after e.exponent es) h in
    let rest = exponents_never_fall e.exponent es parts.1 in
    let on : low ≤ e.exponent = ltb-false e.exponent low parts.0 in
    ((on, each_weaker (λ f. e.exponent ≤ f.exponent) (λ f. low ≤ f.exponent) (λ f g. omega arith) es rest.0), rest)

-- without a fall exponents rise
pub without_a_fall : (es : List TableEntry) → has_falling_exponents es ≡ false → Pairs (λ e f. e.exponent ≤ f.exponent) es
without_a_fall [] h = tt
without_a_fall (e ∷ es) h = exponents_never_fall e.exponent es h

-- without a fault at an entry each exponent is near its type
pub sound : (es : List TableEntry) → first_entry_fault es ≡ None → Each (λ e. (e.exponent ≤ e.log10_type) × (e.log10_type ≤ e.exponent + 15)) es
sound [] h = tt
sound (e ∷ es) h =
    let both = none_or (entry_fault e) (first_entry_fault es) h in
    (sound_entry e both.0, sound es both.1)

-- what is kept of a sorted map without a fault is a compact table
pub kept_is_table : (zero_magnitude : Option PatternElements) (es : List (ℕ × (ℕ × PatternElements))) → IsStrictlySortedBy nat_cmp (keys_of es) →
    fault_of zero_magnitude (as_table es) ≡ None → IsCompactTable (kept zero_magnitude (as_table es))
kept_is_table zero_magnitude es sorted none =
    let faults = no_entry_fault zero_magnitude (as_table es) none in
    let small = sound (kept zero_magnitude (as_table es)) faults.1 in
    record {
      types_rise = all_pairs _ _ (pairs_kept (λ e f. e.log10_type < f.log10_type) zero_magnitude (as_table es) (types_rise es sorted));
      exponents_never_fall = all_pairs _ _ (pairs_kept (λ e f. e.exponent ≤ f.exponent) zero_magnitude (as_table es)
          (without_a_fall (as_table es) faults.0));
      exponents_small = all_each _ _ (each_weaker _ (λ e. e.exponent ≤ e.log10_type) (λ e h. h.0) (kept zero_magnitude (as_table es)) small);
      shifts_small = all_each _ _ (each_weaker _ (λ e. e.log10_type ≤ e.exponent + 15) (λ e h. h.1) (kept zero_magnitude (as_table es)) small);
    }
