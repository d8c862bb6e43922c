-- Every table that can be packed is made of a map: of its own entries.
use Rattle.std.proofs.Common.{◌≡◌, ◌+◌, ◌≤◌, Bool, false, refl, arith, ap, ◌∙◌, List, [], ◌∷◌, Option, Some, None, nat_lt}
use Rattle.std.proofs.lemmas.Bool.{le-ltb}
use Rattle.icu_pattern.specs.Patterns.{PatternText}
use Rattle.icu_decimal_data.specs.CompactTable.{TableEntry}
use Rattle.icu_decimal_data.specs.Kept.{kept, changes, repeats}
use Rattle.icu_decimal_data.specs.CompactFaults.{falls_after, has_falling_exponents, first_entry_fault, literals_size}
use Rattle.icu_decimal_data.specs.PackedTable.{AreEntries, PackableIsMade}
use Rattle.icu_decimal_data.proofs.TableOfMap.{all_size}

module _ (accepts : PatternText → Bool) where
  all_change : (before : TableEntry) (es : List TableEntry) → AreEntries accepts (Some before) es → changes before es ≡ es
  all_change before [] h = refl
  all_change before (e ∷ es) h = let differs : repeats before e ≡ false = h.1.2 in
      rw differs (ap (λ (fs : List TableEntry). e ∷ fs) (all_change e es h.2))

  all_kept : (es : List TableEntry) → AreEntries accepts None es → kept None es ≡ es
  all_kept [] h = refl
  all_kept (e ∷ es) h = ap (λ (fs : List TableEntry). e ∷ fs) (all_change e es h.2)

  none_falls : (before : TableEntry) (es : List TableEntry) → AreEntries accepts (Some before) es → falls_after before.exponent es ≡ false
  none_falls before [] h = refl
  none_falls before (e ∷ es) h =
      let here : nat_lt e.exponent before.exponent ≡ false = le-ltb _ _ h.1.1 in
      rw here (none_falls e es h.2)

  first_falls : (es : List TableEntry) → AreEntries accepts None es → has_falling_exponents es ≡ false
  first_falls [] h = refl
  first_falls (e ∷ es) h = none_falls e es h.2

  none_faulty : (b : Option TableEntry) (es : List TableEntry) → AreEntries accepts b es → first_entry_fault es ≡ None
  none_faulty b [] h = refl
  none_faulty b (e ∷ es) h =
      let below : nat_lt e.log10_type e.exponent ≡ false = le-ltb _ _ h.0.below in
      let near : nat_lt (e.exponent + 15) e.log10_type ≡ false = le-ltb _ _ h.0.few_zeros in
      let rest = none_faulty (Some e) es h.2 in
      rw (below, near) rest

-- each table that can be packed is what is kept of its own entries
pub packable_is_made : PackableIsMade
packable_is_made accepts t h =
    let same : kept None t ≡ t = all_kept accepts t h.entries in
    let falls = first_falls accepts t h.entries in
    let faulty : first_entry_fault (kept None t) ≡ None = ap first_entry_fault same ∙ none_faulty accepts None t h.entries in
    let size : literals_size (kept None t) ≤ 65535 = omega (arith, ap literals_size same, all_size t, h.short) in
    let small : nat_lt 65535 (literals_size (kept None t)) ≡ false = le-ltb _ _ size in
    (same, rw (falls, faulty, small) refl)
