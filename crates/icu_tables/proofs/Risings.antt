-- Entries with rising types, one after another.
use Rattle.std.proofs.Common.{◌≡◌, ℕ, List, [], ◌∷◌, ◌++◌, Option, Some, Result, Ok, sym, ap, ◌∙◌}
use Rattle.std.proofs.lemmas.List.{append-nil}
use Rattle.serde_json.specs.Data.{Data}
use Rattle.icu_tables.specs.Compact.{listed_entry_in, listed_entries_in}
use Rattle.icu_tables.specs.declared.compact.ListedEntry.{ListedEntry}
use Rattle.icu_table_entries.specs.Reading.{◌>>=◌, Fails}
use Rattle.icu_table_entries.specs.declared.error.TableError.{TableError}
use Rattle.icu_table_entries.proofs.Lists.{with_front, regroup, failed}

-- one more entry is read, and the rest goes on
pub entries_go_on : (front : List ListedEntry) (before : Option ℕ) (d : Data) (ds : List Data) (x : ListedEntry)
    (total : Result (List ListedEntry) TableError)
    → listed_entry_in before d ≡ Ok x → with_front front (listed_entries_in before (d ∷ ds)) ≡ total
    → with_front (front ++ x ∷ []) (listed_entries_in (Some x.log10_type) ds) ≡ total
unfolding listed_entries_in
entries_go_on front before d ds x total h so_far =
    let one : with_front front (listed_entries_in before (d ∷ ds)) ≡ with_front (front ++ x ∷ []) (listed_entries_in (Some x.log10_type) ds) =
    rw h (regroup front x (listed_entries_in (Some x.log10_type) ds)) in
    sym one ∙ so_far

-- an entry that is rejected rejects the list
pub entries_fail : (e : TableError) (front : List ListedEntry) (before : Option ℕ) (d : Data) (ds : List Data) (total : Result (List ListedEntry) TableError)
    → Fails e (listed_entry_in before d) → with_front front (listed_entries_in before (d ∷ ds)) ≡ total → Fails e total
unfolding listed_entries_in
entries_fail e front before d ds total h so_far =
    rw (← so_far) (failed e _ (λ xs. Ok (front ++ xs)) (failed e (listed_entry_in before d)
    (λ x. listed_entries_in (Some x.log10_type) ds >>= λ xs. Ok (x ∷ xs)) h))

-- without entries left all are read
pub entries_end : (front : List ListedEntry) (before : Option ℕ) (total : Result (List ListedEntry) TableError) →
    with_front front (listed_entries_in before []) ≡ total → total ≡ Ok front
unfolding listed_entries_in
entries_end front before total so_far = sym so_far ∙ ap Ok (append-nil front)
