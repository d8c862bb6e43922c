-- What is kept of a map without a fault can be packed.
-- Neighbours differ by induction over `kept_since`, with the last kept entry as a parameter (`since_differ`). Types and exponents rise in what is
-- kept as they do in the map (`pairs_kept` of KeptTables), and each kept entry is sound where no fault is found. `entries_after` puts these
-- together by induction, with the entry before as a parameter, since `AreEntries` relates neighbours and `Pairs` all pairs.
-- At most 256 entries are kept, as types rise below 256 (`bounded`); the pool is short since `TooLarge` isn't the fault, by the count of the
-- literals (`all_size`).
use Rattle.std.proofs.Common.{◌≡◌, ℕ, ◌+◌, ◌<◌, ◌≤◌, ◌^◌, ⊎_elim, Bool, true, false, refl, arith, List, [], ◌∷◌, length}
use Rattle.std.proofs.Common.{Option, Some, None, nat_lt, ltb-false, subst, length-append, sum_by}
use Rattle.std.specs.Prelude.{⊤, if◌then◌else◌}
use Rattle.std.specs.List.Sorted.{IsStrictlySortedBy}
use Rattle.std.specs.Map.{keys_of}
use Rattle.std.specs.Ordering.{nat_cmp}
use Rattle.std.proofs.lemmas.Bool.{cases_Bool}
use Rattle.std.proofs.lemmas.List.Sums.{sum_by-cons}
use Rattle.icu_plurals.specs.Elements.{slots}
use Rattle.icu_pattern.specs.Patterns.{PatternText}
use Rattle.icu_decimal_data.specs.CompactTable.{PatternElements, TableEntry}
use Rattle.icu_decimal_data.specs.Kept.{as_table, kept, repeats, is_zero_magnitude}
use Rattle.icu_decimal_data.specs.KeptSince.{kept_since}
use Rattle.icu_decimal_data.specs.CompactFaults.{fault_of, slot_size, elements_size, literals_size, first_entry_fault}
use Rattle.icu_decimal_data.specs.declared.error.CompactError.TheVariants.{TooLarge}
use Rattle.icu_decimal_data.specs.PackedTable.{IsPackable, AreEntries, AreWritable, literal_of, slot_literals, literals}
use Rattle.icu_decimal_data.proofs.EntryFaults.{none_or, no_entry_fault}
use Rattle.icu_decimal_data.proofs.KeptSteps.{kept_since_start}
use Rattle.icu_decimal_data.proofs.KeptTables.{Each, Pairs, each_weaker, pairs_kept, types_rise, sound, without_a_fall}

-- ---- no kept entry repeats the one before

abbrev Differ : TableEntry → List TableEntry → Type 0
Differ before [] = ⊤
Differ before (e ∷ es) = (repeats before e ≡ false) × Differ e es

since_differ : (zero_magnitude : Option PatternElements) (last : TableEntry) (es : List TableEntry)
    → Differ last (kept_since zero_magnitude (Some last.elements) es)
since_differ zero_magnitude last [] = tt
since_differ zero_magnitude last (e ∷ es) =
    ⊎_elim
    (λ (r : repeats last e ≡ true). rw r (since_differ zero_magnitude last es))
    (λ (r : repeats last e ≡ false). rw r (r, since_differ zero_magnitude e es))
    (cases_Bool (repeats last e))

abbrev FirstDiffer : List TableEntry → Type 0
FirstDiffer [] = ⊤
FirstDiffer (e ∷ es) = Differ e es

kept_differ : (zero_magnitude : Option PatternElements) (es : List TableEntry) → FirstDiffer (kept_since zero_magnitude None es)
kept_differ zero_magnitude [] = tt
kept_differ zero_magnitude (e ∷ es) =
    ⊎_elim
    (λ (z : is_zero_magnitude zero_magnitude e.elements ≡ true). rw z (kept_differ zero_magnitude es))
    (λ (z : is_zero_magnitude zero_magnitude e.elements ≡ false). rw z (since_differ zero_magnitude e es))
    (cases_Bool (is_zero_magnitude zero_magnitude e.elements))

-- ---- at most 256

bounded : (low : ℕ) (es : List TableEntry) → low ≤ 256 → Each (λ e. low ≤ e.log10_type) es → Each (λ e. e.log10_type < 256) es →
    Pairs (λ e f. e.log10_type < f.log10_type) es → length es + low ≤ 256
bounded low [] room above small rise = omega arith
bounded low (e ∷ es) room above small rise =
    let here : low ≤ e.log10_type = above.0 in
    let byte : e.log10_type < 256 = small.0 in
    let rest = bounded (e.log10_type + 1) es (omega arith) (each_weaker (λ f. e.log10_type < f.log10_type) (λ f. e.log10_type + 1 ≤ f.log10_type)
    (λ f h. omega arith) es rise.0) small.1 rise.1 in
    omega arith

each_any : (P : TableEntry → Type 0) → ((e : TableEntry) → P e) → (es : List TableEntry) → Each P es
each_any P h [] = tt
each_any P h (e ∷ es) = (h e, each_any P h es)

-- ---- the literals are as long as they are counted

slots_size : (ss : List (Option PatternText)) → length (slot_literals ss) ≡ sum_by slot_size ss
slots_size [] = refl
slots_size (s ∷ ss) = omega (arith, length-append (literal_of s) (slot_literals ss), sum_by-cons slot_size s ss, slots_size ss, one s)
  where
    one : (s : Option PatternText) → length (literal_of s) ≡ slot_size s
    one None = refl
    one (Some p) = refl

-- the literals are as long as they are counted
pub all_size : (es : List TableEntry) → length (literals es) ≡ literals_size es
all_size [] = refl
all_size (e ∷ es) =
    let here : length (slot_literals (slots e.elements)) ≡ elements_size e.elements = slots_size (slots e.elements) in
    let more : literals_size (e ∷ es) ≡ elements_size e.elements + literals_size es = sum_by-cons (λ (f : TableEntry). elements_size f.elements) e es in
    omega (arith, length-append (slot_literals (slots e.elements)) (literals es), here, more, all_size es)

-- ---- entries

module _ (accepts : PatternText → Bool) where
  entries_after : (before : TableEntry) (es : List TableEntry) → Each (λ f. before.log10_type < f.log10_type) es →
      Each (λ f. before.exponent ≤ f.exponent) es → Pairs (λ e f. e.log10_type < f.log10_type) es → Pairs (λ e f. e.exponent ≤ f.exponent) es
      → Each (λ e. (e.exponent ≤ e.log10_type) × (e.log10_type ≤ e.exponent + 15)) es → Differ before es → AreWritable accepts es →
      AreEntries accepts (Some before) es
  entries_after before [] a b types exps near differ writable = tt
  entries_after before (e ∷ es) a b types exps near differ writable = (
    record { is_byte = writable.0; below = near.0.0; few_zeros = near.0.1; patterns = writable.1 },
    (a.0, b.0, differ.0),
    entries_after e es types.0 exps.0 types.1 exps.1 near.1 differ.1 writable.2,
  )

  entries_are : (es : List TableEntry) → Pairs (λ e f. e.log10_type < f.log10_type) es → Pairs (λ e f. e.exponent ≤ f.exponent) es
      → Each (λ e. (e.exponent ≤ e.log10_type) × (e.log10_type ≤ e.exponent + 15)) es → FirstDiffer es → AreWritable accepts es →
      AreEntries accepts None es
  entries_are [] types exps near differ writable = tt
  entries_are (e ∷ es) types exps near differ writable = (
    record { is_byte = writable.0; below = near.0.0; few_zeros = near.0.1; patterns = writable.1 },
    tt,
    entries_after e es types.0 exps.0 types.1 exps.1 near.1 differ writable.2,
  )

  types_are_bytes : (es : List TableEntry) → AreWritable accepts es → Each (λ e. e.log10_type < 256) es
  types_are_bytes [] h = tt
  types_are_bytes (e ∷ es) h = (h.0, types_are_bytes es h.2)

-- ---- a map without a fault

within : (n : ℕ) → (if nat_lt 65535 n then Some TooLarge else None) ≡ None → n ≤ 65535
within n h =
    ⊎_elim
    (λ (over : nat_lt 65535 n ≡ true). absurd (let k = rw over at h in cc))
    (λ (under : nat_lt 65535 n ≡ false). ltb-false 65535 n under)
    (cases_Bool (nat_lt 65535 n))

module _ (zero_magnitude : Option PatternElements) (map : List (ℕ × (ℕ × PatternElements))) where
  -- without a fault the kept literals are short
  pub short_kept : fault_of zero_magnitude (as_table map) ≡ None → length (literals (kept zero_magnitude (as_table map))) < 2 ^ 16
  short_kept none =
      let faults = no_entry_fault zero_magnitude (as_table map) none in
      let parts = none_or (first_entry_fault (kept zero_magnitude (as_table map))) _ (rw faults.0 at none) in
      let limit : literals_size (kept zero_magnitude (as_table map)) ≤ 65535 = within (literals_size (kept zero_magnitude (as_table map))) parts.1 in
      omega (arith, all_size (kept zero_magnitude (as_table map)))

  module _ (accepts : PatternText → Bool) (sorted : IsStrictlySortedBy nat_cmp (keys_of map))
      (writable : AreWritable accepts (kept zero_magnitude (as_table map))) where
    rising : Pairs (λ e f. e.log10_type < f.log10_type) (kept zero_magnitude (as_table map))
    rising = pairs_kept (λ e f. e.log10_type < f.log10_type) zero_magnitude (as_table map) (types_rise map sorted)

    -- at most 256 entries are kept
    pub few_kept : length (kept zero_magnitude (as_table map)) ≤ 256
    few_kept =
        let h = bounded 0 (kept zero_magnitude (as_table map)) (omega arith)
        (each_any (λ e. 0 ≤ e.log10_type) (λ e. omega arith) (kept zero_magnitude (as_table map)))
        (types_are_bytes accepts (kept zero_magnitude (as_table map)) writable) rising in
        omega arith

    -- what is kept without a fault can be packed
    pub packable : fault_of zero_magnitude (as_table map) ≡ None → IsPackable accepts (kept zero_magnitude (as_table map))
    packable none =
        let faults = no_entry_fault zero_magnitude (as_table map) none in
        let differ : FirstDiffer (kept zero_magnitude (as_table map)) =
        subst FirstDiffer (kept_since_start zero_magnitude (as_table map)) (kept_differ zero_magnitude (as_table map)) in
        record {
          counted = few_kept;
          short = short_kept none;
          entries = entries_are accepts (kept zero_magnitude (as_table map)) rising
              (pairs_kept (λ e f. e.exponent ≤ f.exponent) zero_magnitude (as_table map) (without_a_fall (as_table map) faults.0))
              (sound (kept zero_magnitude (as_table map)) faults.1)
              differ writable;
        }
