-- A map that is made of rows by rising types.
use Rattle.std.proofs.Common.{◌≡◌, ℕ, ◌<◌, ◌≤◌, List, [], ◌∷◌, ◌++◌, Option, Some, None, refl, sym, arith, Greater}
use Rattle.std.specs.Cmp.{nat_cmp_is}
use Rattle.std.specs.BTreeMap.{insert_entry}
use Rattle.std.specs.List.{AllByRecursion}
use Rattle.std.specs.Ordering.{nat_cmp}
use Rattle.icu_decimal_data.specs.CompactTable.{PatternElements, TableEntry}
use Rattle.icu_dimension_data.specs.CompactRows.{IsAbove, RowsRise}
use Rattle.icu_dimension_data.specs.declared.compact_rows.CompactRow.{CompactRow}

-- the entries of a map from types to exponents and patterns
abbrev pub Pairs : Type 0
Pairs = List (ℕ × (ℕ × PatternElements))

-- an entry of a map, as a table's
abbrev pub given_entry : ℕ × (ℕ × PatternElements) → TableEntry
given_entry p = record { log10_type = p.0; exponent = p.1.0; elements = p.1.1 }

-- no key is above one, and without one there is none
abbrev AreUpTo : Option ℕ → Pairs → Type 0
AreUpTo None es = es ≡ []
AreUpTo (Some before) es = AllByRecursion (λ p. p.0 ≤ before) es

-- the rows that are left rise after the keys of the map
abbrev pub GoesOn : Pairs → List CompactRow → Type 0
GoesOn es left = (before : Option ℕ) × AreUpTo before es × RowsRise before left

insert_last : (es : Pairs) (k : ℕ) (v : ℕ × PatternElements) → AllByRecursion (λ p. p.0 < k) es → insert_entry nat_cmp es k v ≡ es ++ (k, v) ∷ []
insert_last [] k v h = refl
insert_last (e ∷ es) k v h =
    let after : nat_cmp k e.0 ≡ Greater = sym (nat_cmp_is k e.0 Greater h.0) in
    rw (after, insert_last es k v h.1) refl

all_below : (es : Pairs) (before k : ℕ) → before < k → AllByRecursion (λ p. p.0 ≤ before) es → AllByRecursion (λ p. p.0 < k) es
all_below [] before k lt h = tt
all_below (e ∷ es) before k lt h = (omega (arith, lt, h.0), all_below es before k lt h.1)

all_up_to : (es : Pairs) (k : ℕ) (v : ℕ × PatternElements) → AllByRecursion (λ p. p.0 < k) es → AllByRecursion (λ p. p.0 ≤ k) (es ++ (k, v) ∷ [])
all_up_to [] k v h = (omega arith, tt)
all_up_to (e ∷ es) k v h = (omega (arith, h.0), all_up_to es k v h.1)

are_below : (es : Pairs) (before : Option ℕ) (k : ℕ) → AreUpTo before es → IsAbove before k → AllByRecursion (λ p. p.0 < k) es
are_below es None k up_to above = rw up_to tt
are_below es (Some before) k up_to above = all_below es before k above up_to

-- an insert of a type above all others appends
pub put_last : (es : Pairs) (row : CompactRow) (left : List CompactRow) (v : ℕ × PatternElements) → GoesOn es (row ∷ left) →
    insert_entry nat_cmp es row.log10_type v ≡ es ++ (row.log10_type, v) ∷ []
put_last es row left v (before, up_to, (above, rise)) = insert_last es row.log10_type v (are_below es before row.log10_type up_to above)

-- a map goes on with one more row
pub still_goes_on : (es : Pairs) (row : CompactRow) (left : List CompactRow) (v : ℕ × PatternElements) → GoesOn es (row ∷ left) →
    GoesOn (es ++ (row.log10_type, v) ∷ []) left
still_goes_on es row left v (before, up_to, (above, rise)) =
    (Some row.log10_type, all_up_to es row.log10_type v (are_below es before row.log10_type up_to above), rise)
