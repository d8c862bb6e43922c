-- The categories of triples, one after the other.
use Rattle.std.proofs.Common.{◌≡◌, ℕ, ◌+◌, ◌<◌, add-one, Result, Ok, refl, sym, ap, ◌∙◌}
use Rattle.std.proofs.Common.{List, [], ◌∷◌, ◌++◌, length, map, drop, drop-cons, get_or}
use Rattle.std.proofs.lemmas.List.{append-nil}
use Rattle.std.specs.Borrow.{Bor}
use Rattle.icu_range_tables.specs.PluralRanges.{Names, names_lent, range_of, ranges_of}
use Rattle.icu_ranges.specs.declared.plural_ranges.PluralRange.{PluralRange}
use Rattle.icu_table_entries.proofs.Lists.{failed, regroup, with_front}
use Rattle.icu_table_entries.specs.Reading.{◌>>=◌, Fails}
use Rattle.icu_table_entries.specs.declared.error.Position.{Position}
use Rattle.icu_table_entries.specs.declared.error.TableError.{TableError}

-- a triple that is read is one more in front of the rest
pub range_goes_on : (position : Position) (front : List PluralRange) (k : ℕ) (t : Names) (ts : List Names) (r : PluralRange)
    (total : Result (List PluralRange) TableError)
    → range_of position k t ≡ Ok r → with_front front (ranges_of position k (t ∷ ts)) ≡ total
    → with_front (front ++ r ∷ []) (ranges_of position (k + 1) ts) ≡ total
unfolding ranges_of
range_goes_on position front k t ts r total h so_far =
    let one : with_front front (ranges_of position k (t ∷ ts)) ≡ with_front (front ++ r ∷ []) (ranges_of position (k + 1) ts) =
    rw h (regroup front r (ranges_of position (k + 1) ts)) in
    sym one ∙ so_far

-- one that is rejected rejects the list
pub range_fails : (position : Position) (e : TableError) (front : List PluralRange) (k : ℕ) (t : Names) (ts : List Names)
    (total : Result (List PluralRange) TableError)
    → Fails e (range_of position k t) → with_front front (ranges_of position k (t ∷ ts)) ≡ total → Fails e total
unfolding ranges_of
range_fails position e front k t ts total h so_far =
    rw (← so_far) (failed e _ (λ rs. Ok (front ++ rs)) (failed e (range_of position k t)
    (λ r. ranges_of position (k + 1) ts >>= λ rs. Ok (r ∷ rs)) h))

-- behind the last one all are read
pub ranges_end : (position : Position) (front : List PluralRange) (k : ℕ) (total : Result (List PluralRange) TableError)
    → with_front front (ranges_of position k []) ≡ total → total ≡ Ok front
unfolding ranges_of
ranges_end position front k total so_far = sym so_far ∙ ap Ok (append-nil front)

-- three names that are lent
abbrev Lent : Type 0
Lent = Bor (List ℕ) × Bor (List ℕ) × Bor (List ℕ)

-- three names without text
abbrev pub no_names : Lent
no_names =
    let empty : Bor (List ℕ) = record { ref_ptr = (0, 0); now = [] } in
    (empty, empty, empty)

-- the triples from an index on
pub triples_from : (ts : List Lent) (i : ℕ) → i < length ts →
    map names_lent (drop i ts) ≡ names_lent (get_or ts i no_names) ∷ map names_lent (drop (i + 1) ts)
triples_from ts i lt = ap (map names_lent) (drop-cons ts i no_names lt) ∙ rw add-one refl
