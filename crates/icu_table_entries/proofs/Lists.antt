-- Lists of values, and lists of entries.
use Rattle.std.proofs.Common.{◌≡◌, ℕ, ◌+◌, ◌<◌, List, length, get_or, drop, drop-cons, add-one, [], ◌∷◌, ◌++◌, map, Result, Ok, Err}
use Rattle.std.proofs.Common.{refl, sym, ap, ◌∙◌, append_assoc}
use Rattle.std.proofs.lemmas.List.{append-nil}
use Rattle.serde_json.specs.Data.{Data}
use Rattle.serde_json.specs.View.{view, items_of}
use Rattle.serde_json.specs.declared.value.Value.{Value}
use Rattle.icu_table_entries.specs.declared.error.Key.{Key}
use Rattle.icu_table_entries.specs.declared.error.Position.{Position}
use Rattle.icu_table_entries.specs.declared.error.TableError.{TableError}
use Rattle.icu_table_entries.specs.declared.error.TableError.TheVariants.{NotJson, Float, Missing, WrongKind, Entry, OutOfMemory}
use Rattle.icu_table_entries.specs.Reading.{◌>>=◌, Fails, list_of, entries_at}

-- the list of a list's items is the list
pub list_of-items_of : (ds : List Data) → list_of (items_of ds) ≡ ds
list_of-items_of [] = refl
list_of-items_of (d ∷ ds) = ap (λ (es : List Data). d ∷ es) (list_of-items_of ds)

-- what the proof of `list_in` cites
pub ruleset list_rules = list_of-items_of

-- what was read before, and what is still read
abbrev pub with_front : {A : Type 0} → List A → Result (List A) TableError → Result (List A) TableError
with_front front read = read >>= λ xs. Ok (front ++ xs)

-- an entry in front of those that are read stands behind those that were read
pub regroup : {A : Type 0} (front : List A) (x : A) (read : Result (List A) TableError) →
    with_front front (read >>= λ xs. Ok (x ∷ xs)) ≡ with_front (front ++ x ∷ []) read
regroup front x (Ok xs) = ap Ok (sym (append_assoc front (x ∷ []) xs))
regroup front x (Err e) = refl

-- a reading that failed fails with all that follows
pub failed : {A B : Type 0} (e : TableError) (r : Result A TableError) (f : A → Result B TableError) → Fails e r → Fails e (r >>= f)
failed NotJson r f h = rw h refl
failed Float r f h = rw h refl
failed (Missing key) r f h = rw h refl
failed (WrongKind key) r f h = rw h refl
failed (Entry key index fault) r f h = rw h refl
failed OutOfMemory r f h = tt

module _ {A : Type 0} (read : Position → Data → Result A TableError) (key : Key) where
  -- an entry that is read is one more in front of the rest
  pub goes_on : (front : List A) (i : ℕ) (d : Data) (ds : List Data) (x : A) (total : Result (List A) TableError) →
      read (record { key = key; index = i }) d ≡ Ok x
      → with_front front (entries_at read key i (d ∷ ds)) ≡ total → with_front (front ++ x ∷ []) (entries_at read key (i + 1) ds) ≡ total
  unfolding entries_at
  goes_on front i d ds x total h so_far =
      let one : with_front front (entries_at read key i (d ∷ ds)) ≡ with_front (front ++ x ∷ []) (entries_at read key (i + 1) ds) =
      rw h (regroup front x (entries_at read key (i + 1) ds)) in
      sym one ∙ so_far

  -- an entry that is rejected rejects the list
  pub fails : (e : TableError) (front : List A) (i : ℕ) (d : Data) (ds : List Data) (total : Result (List A) TableError) →
      Fails e (read (record { key = key; index = i }) d)
      → with_front front (entries_at read key i (d ∷ ds)) ≡ total → Fails e total
  unfolding entries_at
  fails e front i d ds total h so_far =
      rw (← so_far) (failed e _ (λ xs. Ok (front ++ xs)) (failed e (read (record { key = key; index = i }) d)
      (λ x. entries_at read key (i + 1) ds >>= λ xs. Ok (x ∷ xs)) h))

  -- behind the last entry all are read
  pub ends : (front : List A) (i : ℕ) (total : Result (List A) TableError) → with_front front (entries_at read key i []) ≡ total → total ≡ Ok front
  unfolding entries_at
  ends front i total so_far = sym so_far ∙ ap Ok (append-nil front)

-- the values from an index on
pub values_from : (vs : List Value) (i : ℕ) (x : Value) → x ≡ get_or vs i x → i < length vs →
    map view (drop i vs) ≡ view x ∷ map view (drop (i + 1) vs)
values_from vs i x e lt = ap (map view) (drop-cons vs i x lt) ∙ rw (← e, add-one) refl
