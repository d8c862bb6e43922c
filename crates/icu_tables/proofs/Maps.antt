-- A map that is made by rising keys.
use Rattle.std.proofs.Common.{◌≡◌, ℕ, ◌+◌, ◌<◌, ◌≤◌, List, [], ◌∷◌, ◌++◌, length, drop, drop-cons, add-one, get_or, Option}
use Rattle.std.proofs.Common.{Some, None, Result, Ok, refl, sym, ap, ◌∙◌, arith, Greater}
use Rattle.std.specs.Cmp.{nat_cmp_is}
use Rattle.std.specs.BTreeMap.{insert_entry}
use Rattle.std.specs.List.{AllByRecursion}
use Rattle.std.specs.Ordering.{nat_cmp}
use Rattle.std.proofs.lemmas.List.{append-nil}
use Rattle.icu_decimal_data.specs.CompactTable.{PatternElements, TableEntry}
use Rattle.icu_tables.specs.Compact.{IsAbove, Rise, entries_of}
use Rattle.icu_table_entries.specs.CategoryTexts.{patterns_of}
use Rattle.icu_tables.specs.declared.compact.ListedEntry.{ListedEntry}
use Rattle.icu_table_entries.specs.Reading.{◌>>=◌, Fails}
use Rattle.icu_table_entries.specs.declared.error.Position.{Position}
use Rattle.icu_table_entries.specs.declared.error.TableError.{TableError}
use Rattle.icu_table_entries.proofs.Lists.{with_front, regroup, failed}

-- the entries of a map from types to exponents and patterns
abbrev pub Pairs : Type 0
Pairs = List (ℕ × (ℕ × PatternElements))

-- an entry of a map, as a table's
abbrev pub given_entry : ℕ × (ℕ × PatternElements) → TableEntry
given_entry p = record { log10_type = p.0; exponent = p.1.0; elements = p.1.1 }

-- no key is above one, and without one there is none
abbrev pub AreUpTo : Option ℕ → Pairs → Type 0
AreUpTo None es = es ≡ []
AreUpTo (Some before) es = AllByRecursion (λ p. p.0 ≤ before) es

-- what is left rises after the keys of the map
abbrev pub GoesOn : Pairs → List ListedEntry → Type 0
GoesOn es left = (before : Option ℕ) × AreUpTo before es × Rise before left

insert_last : (es : Pairs) (k : ℕ) (v : ℕ × PatternElements) → AllByRecursion (λ p. p.0 < k) es → insert_entry nat_cmp es k v ≡ es ++ (k, v) ∷ []
insert_last [] k v h = refl
insert_last (e ∷ es) k v h =
    let after : nat_cmp k e.0 ≡ Greater = sym (nat_cmp_is k e.0 Greater h.0) in
    rw (after, insert_last es k v h.1) refl

all_below : (es : Pairs) (before k : ℕ) → before < k → AllByRecursion (λ p. p.0 ≤ before) es → AllByRecursion (λ p. p.0 < k) es
all_below [] before k lt h = tt
all_below (e ∷ es) before k lt h = (omega (arith, lt, h.0), all_below es before k lt h.1)

all_up_to : (es : Pairs) (k : ℕ) (v : ℕ × PatternElements) → AllByRecursion (λ p. p.0 < k) es → AllByRecursion (λ p. p.0 ≤ k) (es ++ (k, v) ∷ [])
all_up_to [] k v h = (omega arith, tt)
all_up_to (e ∷ es) k v h = (omega (arith, h.0), all_up_to es k v h.1)

are_below : (es : Pairs) (before : Option ℕ) (k : ℕ) → AreUpTo before es → IsAbove before k → AllByRecursion (λ p. p.0 < k) es
are_below es None k up_to above = rw up_to tt
are_below es (Some before) k up_to above = all_below es before k above up_to

-- an insert of a key above all others appends
pub put_last : (es : Pairs) (e : ListedEntry) (left : List ListedEntry) (v : ℕ × PatternElements) → GoesOn es (e ∷ left) →
    insert_entry nat_cmp es e.log10_type v ≡ es ++ (e.log10_type, v) ∷ []
put_last es e left v (before, up_to, (above, rise)) = insert_last es e.log10_type v (are_below es before e.log10_type up_to above)

-- a map goes on with one more entry
pub still_goes_on : (es : Pairs) (e : ListedEntry) (left : List ListedEntry) (v : ℕ × PatternElements) → GoesOn es (e ∷ left) →
    GoesOn (es ++ (e.log10_type, v) ∷ []) left
still_goes_on es e left v (before, up_to, (above, rise)) = (Some e.log10_type, all_up_to es e.log10_type v (are_below es before e.log10_type up_to above), rise)

-- the type of the last entry, or the one before them
abbrev pub last_type : Option ℕ → List ListedEntry → Option ℕ
last_type before [] = before
last_type before (e ∷ es) = last_type (Some e.log10_type) es

-- one entry more that is above the last one
pub rise_on : (before : Option ℕ) (es : List ListedEntry) (e : ListedEntry) → Rise before es → IsAbove (last_type before es) e.log10_type →
    Rise before (es ++ e ∷ [])
rise_on before [] e h above = (above, tt)
rise_on before (x ∷ es) e h above = (h.0, rise_on (Some x.log10_type) es e h.1 above)

-- the last type with one more entry
pub last_on : (before : Option ℕ) (es : List ListedEntry) (e : ListedEntry) → last_type before (es ++ e ∷ []) ≡ Some e.log10_type
last_on before [] e = refl
last_on before (x ∷ es) e = last_on (Some x.log10_type) es e

-- the entries from an index on
pub entries_from : (es : List ListedEntry) (i : ℕ) (x : ListedEntry) → x ≡ get_or es i x → i < length es → drop i es ≡ x ∷ drop (i + 1) es
entries_from es i x e lt = drop-cons es i x lt ∙ rw (← e, add-one) refl

-- the entry that is made of patterns
abbrev entry_with : ListedEntry → PatternElements → TableEntry
entry_with e v = record { log10_type = e.log10_type; exponent = e.exponent; elements = v }

-- one more entry is made, and the rest goes on
pub made_goes_on : (position : Position) (front : List TableEntry) (e : ListedEntry) (es : List ListedEntry) (v : PatternElements)
    (total : Result (List TableEntry) TableError)
    → patterns_of position e.texts ≡ Ok v → with_front front (entries_of position (e ∷ es)) ≡ total
    → with_front (front ++ record { log10_type = e.log10_type; exponent = e.exponent; elements = v } ∷ []) (entries_of position es) ≡ total
unfolding entries_of
made_goes_on position front e es v total h so_far =
    let one : with_front front (entries_of position (e ∷ es)) ≡ with_front (front ++ entry_with e v ∷ []) (entries_of position es) =
    rw h (regroup front (entry_with e v) (entries_of position es)) in
    sym one ∙ so_far

-- an entry that is rejected rejects all
pub made_fails : (fault : TableError) (position : Position) (front : List TableEntry) (e : ListedEntry) (es : List ListedEntry)
    (total : Result (List TableEntry) TableError)
    → Fails fault (patterns_of position e.texts) → with_front front (entries_of position (e ∷ es)) ≡ total → Fails fault total
unfolding entries_of
made_fails fault position front e es total h so_far =
    rw (← so_far) (failed fault _ (λ xs. Ok (front ++ xs))
    (failed fault (patterns_of position e.texts) (λ v. entries_of position es >>= λ xs. Ok (entry_with e v ∷ xs)) h))

-- without entries left all are made
pub made_ends : (position : Position) (front : List TableEntry) (total : Result (List TableEntry) TableError) → with_front front (entries_of position [])
    ≡ total →
    total ≡ Ok front
unfolding entries_of
made_ends position front total so_far = sym so_far ∙ ap Ok (append-nil front)
