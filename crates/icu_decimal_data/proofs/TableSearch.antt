-- The records of a table that is read, and the search among them.
-- The search knows only `IsSearchable`: types rise between any two indices. `searchable` has it of a table that was read, by `rising`, an
-- induction over the entries, which relate to their neighbours only. `goes_up` and `goes_down` are the two branches of the loop. `entry_for`
-- goes through the entries and knows no index: by `entry_at_count`, an induction over entries and count, it is the entry before the count
-- where all types before the count are reached and none from it on; `before` and `front` are EntryPlaces'.
use Rattle.std.proofs.Common.{◌≡◌, ℕ, zero, suc, ◌+◌, ◌-◌, ◌*◌, ◌<◌, ◌≤◌, Bool, true, false, List, [], ◌∷◌, length, get_or}
use Rattle.std.proofs.Common.{take, drop, slice_index, slice_get, Option, Some, None, nat_le, refl, sym, ap, ◌∙◌, arith, inl, inr, leb-true, leb-false}
use Rattle.std.proofs.Common.{le-leb}
use Rattle.std.proofs.lemmas.Bool.{lt-leb, cases_lt}
use Rattle.std.proofs.lemmas.List.{get_or-drop, get_or-take, drop-drop}
use Rattle.fixed_decimal.specs.Size.{finest}
use Rattle.icu_pattern.specs.Patterns.{PatternText}
use Rattle.icu_decimal_data.specs.CompactTable.{TableEntry, type_place, entry_for}
use Rattle.icu_decimal_data.specs.PackedTable.{AreEntries}
use Rattle.icu_decimal_data.specs.TableReading.{entry_in, entries_in, entry_of, count_in, pool_in, table_in, type_in, table_step, IsTableBytes, IsSearchable}
use Rattle.icu_decimal_data.specs.TableReading.{exponent_in, IsReached}
use Rattle.icu_decimal_data.proofs.PackedTables.{length-entries, ok_value, is_found, table_read}
use Rattle.icu_decimal_data.proofs.EntryPlaces.{before, front}

-- ---- entries by their index

entries_at : (pool : List ℕ) (n : ℕ) (bytes : List ℕ) (i : ℕ) → i < n →
    slice_get (entries_in pool n bytes) i ≡ Some (entry_in pool (take 58 (drop (58 * i) bytes)))
entries_at pool zero bytes i h = absurd (omega arith)
entries_at pool (suc n) bytes zero h = refl
entries_at pool (suc n) bytes (suc i) h =
    let more : 58 + 58 * i ≡ 58 * suc i = omega arith in
    entries_at pool n (drop 58 bytes) i (omega arith) ∙ ap (λ (r : List ℕ). Some (entry_in pool (take 58 r)))
    (drop-drop (58 * i) 58 bytes ∙ ap (λ (k : ℕ). drop k bytes) more)

-- the entry of an index, by its record
pub entry_at : (bytes : List ℕ) (i : ℕ) → i < count_in bytes → slice_get (table_in bytes) i ≡ Some (entry_of bytes i)
unfolding table_in
entry_at bytes i h = entries_at (pool_in bytes) (count_in bytes) (drop 4 bytes) i h

-- a table has as many entries as its bytes count
pub length-table : (bytes : List ℕ) → length (table_in bytes) ≡ count_in bytes
unfolding table_in
length-table bytes = length-entries (pool_in bytes) (count_in bytes) (drop 4 bytes)

byte_of_record : (bytes : List ℕ) (i k : ℕ) → k < 58 → get_or (take 58 (drop (58 * i) (drop 4 bytes))) k 0 ≡ slice_index bytes (4 + (58 * i + k))
byte_of_record bytes i k h = get_or-take 58 (drop (58 * i) (drop 4 bytes)) k 0 h ∙ rw (get_or-drop, get_or-drop) refl

-- the byte of a type
pub type_is : (bytes : List ℕ) (i : ℕ) → type_in bytes i ≡ (entry_of bytes i).log10_type
type_is bytes i = sym (byte_of_record bytes i 0 (omega arith) ∙ ap (λ (k : ℕ). slice_index bytes k) (omega arith))

-- the byte of an exponent
pub exponent_is : (bytes : List ℕ) (i : ℕ) → exponent_in bytes i ≡ (entry_of bytes i).exponent
exponent_is bytes i = sym (byte_of_record bytes i 1 (omega arith) ∙ ap (λ (k : ℕ). slice_index bytes k) (omega arith))

-- ---- types rise

module _ (accepts : PatternText → Bool) where
  above_all : (b : TableEntry) (es : List TableEntry) → AreEntries accepts (Some b) es → (j : ℕ) (f : TableEntry) → slice_get es j ≡ Some f →
      b.log10_type < f.log10_type
  above_all b [] h j f e = absurd (cc)
  above_all b (x ∷ es) h zero f e = let same : x ≡ f = cc in rw (← same) h.1.0
  above_all b (x ∷ es) h (suc j) f e =
      let one : b.log10_type < x.log10_type = h.1.0 in
      let rest : x.log10_type < f.log10_type = above_all x es h.2 j f e in
      omega arith

  rising : (b : Option TableEntry) (es : List TableEntry) → AreEntries accepts b es → (i j : ℕ) (e f : TableEntry) → i < j →
      slice_get es i ≡ Some e → slice_get es j ≡ Some f → e.log10_type < f.log10_type
  rising b [] h i j e f lt p q = absurd (cc)
  rising b (x ∷ es) h i zero e f lt p q = absurd (omega arith)
  rising b (x ∷ es) h zero (suc j) e f lt p q = let same : x ≡ e = cc in rw (← same) (above_all x es h.2 j f q)
  rising b (x ∷ es) h (suc i) (suc j) e f lt p q = rising (Some x) es h.2 i j e f (omega arith) p q

  -- the records of a table are there, and their types rise
  pub searchable : (bytes : List ℕ) → IsTableBytes accepts bytes → IsSearchable bytes
  searchable bytes h =
      let v = ok_value (table_step accepts bytes) h.read in
      let r = table_read accepts bytes v.0 h.are_bytes v.1 in
      let long = r.long in
      let few = r.few in
      let whole = r.whole in
      let table = is_found accepts bytes h.are_bytes h.read in
      record {
        four = long;
        few = few;
        room = omega arith;
        types_rise = λ i j lt below.
            let r : (entry_of bytes i).log10_type < (entry_of bytes j).log10_type =
            rising None (table_in bytes) table.0.entries i j (entry_of bytes i) (entry_of bytes j) lt (entry_at bytes i (omega arith))
            (entry_at bytes j below) in
            omega (arith, type_is bytes i, type_is bytes j);
      }

-- ---- the search

-- where the middle entry is reached, so are all before it
pub goes_up : (bytes : List ℕ) (m middle : ℕ) → IsSearchable bytes → middle < count_in bytes → nat_le (type_in bytes middle + finest) m ≡ true →
    (i : ℕ) → i < middle + 1 → nat_le (type_in bytes i + finest) m ≡ true
goes_up bytes m middle s inside on i h =
    let high : type_in bytes middle + finest ≤ m = leb-true _ _ on in
    elim (cases_lt i middle) [
      | inl lt ↦ let r : type_in bytes i < type_in bytes middle = s.types_rise i middle lt inside in le-leb _ _ (omega arith)
      | inr le ↦ let same : i ≡ middle = omega arith in rw same on
    ]

-- where the middle entry isn't reached, none after it is
pub goes_down : (bytes : List ℕ) (m middle : ℕ) → IsSearchable bytes → nat_le (type_in bytes middle + finest) m ≡ false → (i : ℕ) →
    middle ≤ i → i < count_in bytes → nat_le (type_in bytes i + finest) m ≡ false
goes_down bytes m middle s off i h inside =
    let low : m < type_in bytes middle + finest = leb-false _ _ off in
    elim (cases_lt middle i) [
      | inl lt ↦ let r : type_in bytes middle < type_in bytes i = s.types_rise middle i lt inside in lt-leb _ _ (omega arith)
      | inr le ↦ let same : i ≡ middle = omega arith in rw same off
    ]

-- ---- the entry of a magnitude

entry_at_count : (table : List TableEntry) (m k : ℕ) → k ≤ length table →
    ((i : ℕ) (e : TableEntry) → slice_get table i ≡ Some e → i < k → nat_le (type_place e) m ≡ true)
    → ((i : ℕ) (e : TableEntry) → slice_get table i ≡ Some e → k ≤ i → nat_le (type_place e) m ≡ false) → entry_for table m ≡ before table k
unfolding entry_for
entry_at_count [] m zero le on off = refl
entry_at_count [] m (suc k) le on off = absurd (omega arith)
entry_at_count (e ∷ es) m zero le on off =
    let rest = entry_at_count es m 0 (omega arith) (λ i f p lt. absurd (omega arith)) (λ i f p l. off (suc i) f p (omega arith)) in
    let here : nat_le (type_place e) m ≡ false = off 0 e refl (omega arith) in
    rw (rest, here) refl
entry_at_count (e ∷ es) m (suc k) le on off =
    let rest = entry_at_count es m k (omega arith) (λ i f p lt. on (suc i) f p (omega arith)) (λ i f p l. off (suc i) f p (omega arith)) in
    let here : nat_le (type_place e) m ≡ true = on 0 e refl (omega arith) in
    rw here (front e es k (entry_for es m) (omega arith) rest)

in_list : (t : List TableEntry) (i : ℕ) (e : TableEntry) → slice_get t i ≡ Some e → i < length t
in_list [] i e p = absurd (cc)
in_list (x ∷ t) zero e p = omega arith
in_list (x ∷ t) (suc i) e p = let r = in_list t i e p in omega arith

-- the index of an entry is below the count
pub entry_index_in : (bytes : List ℕ) (i : ℕ) (e : TableEntry) → slice_get (table_in bytes) i ≡ Some e → i < count_in bytes
entry_index_in bytes i e p = omega (arith, in_list (table_in bytes) i e p, length-table bytes)

-- the type of an entry, against a magnitude
pub place_here : (bytes : List ℕ) (m i : ℕ) (e : TableEntry) → slice_get (table_in bytes) i ≡ Some e →
    nat_le (type_place e) m ≡ nat_le (type_in bytes i + finest) m
place_here bytes m i e p =
    let q : Some (entry_of bytes i) ≡ Some e = sym (entry_at bytes i (entry_index_in bytes i e p)) ∙ p in
    let same : entry_of bytes i ≡ e = cc in
    ap (λ (t : ℕ). nat_le (t + finest) m) (sym (type_is bytes i ∙ ap (λ (x : TableEntry). x.log10_type) same))

found_at : (bytes : List ℕ) (m k : ℕ) → IsReached bytes m k → entry_for (table_in bytes) m ≡ before (table_in bytes) k
found_at bytes m k r =
    let len = length-table bytes in
    entry_at_count (table_in bytes) m k (omega (arith, r.within)) (λ i e p lt. place_here bytes m i e p ∙ r.below i lt)
    (λ i e p le. place_here bytes m i e p ∙ r.above i le (entry_index_in bytes i e p))

-- where no entry is reached, the magnitude has none
pub none_found : (bytes : List ℕ) (m k : ℕ) → IsReached bytes m k → k ≡ 0 → None ≡ entry_for (table_in bytes) m
none_found bytes m k r e = sym (found_at bytes m k r ∙ ap (before (table_in bytes)) e)

-- where entries are reached, the last of them is the magnitude's
pub some_found : (bytes : List ℕ) (m k : ℕ) → IsReached bytes m k → 0 < k → Some (entry_of bytes (k - 1)) ≡ entry_for (table_in bytes) m
some_found bytes m zero r some = absurd (omega arith)
some_found bytes m (suc k) r some =
    let at : suc k - 1 ≡ k = omega arith in
    rw at (sym (found_at bytes m (suc k) r ∙ entry_at bytes k (omega (arith, r.within))))

-- what the search needs, and what reads an entry that was found
pub ruleset searching = (searchable, type_is, exponent_is, goes_up, goes_down, none_found, some_found)
