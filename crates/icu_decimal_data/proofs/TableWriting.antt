-- The byte string of a table, as it is written.
-- Loops write at the end, and the byte string is defined from the front. So an invariant says that what is written, followed by what is left,
-- is the whole: of slots in `pool_more` and `records_more`, of entries in `IsWritten`. Each round moves the first of what is left over
-- (`entry_written`), by `append_assoc` alone, and at the end nothing is left (`all_records`, `all_pool`). A slot names where its literal begins,
-- so the records that are left depend on the pool so far. The entries left are `kept_since`; one that isn't kept changes nothing.
use Rattle.std.proofs.Common.{◌≡◌, ℕ, ◌+◌, ◌*◌, ◌/◌, ◌<◌, ◌≤◌, ◌^◌, Bool, true, List, [], ◌∷◌, ◌++◌, length, drop}
use Rattle.std.proofs.Common.{drop-cons, add-one, slice_index_or, Option, Some, None, Result, Ok, Err, IsTrue, refl, sym, ap, ◌∙◌, arith, subst}
use Rattle.std.proofs.Common.{append_assoc, append-nil, length-append}
use Rattle.icu_pattern.specs.Patterns.{PatternText, PlaceholderFits}
use Rattle.icu_plurals.specs.Elements.{slots}
use Rattle.std.specs.Prelude.{IfSome, OnOk}
use Rattle.std.specs.Str.{IsCharBoundary, IsUtf8, is_utf8}
use Rattle.std.proofs.lemmas.Str.{is_utf8-from_IsUtf8}
use Rattle.icu_decimal_data.specs.CompactTable.{TableEntry, PatternElements}
use Rattle.icu_decimal_data.specs.KeptSince.{kept_since, stays}
use Rattle.icu_decimal_data.specs.PackedTable.{ArePatterns, AreWritable, literal_of, slot_literals, literals}
use Rattle.icu_decimal_data.specs.TableBytes.{number_bytes, slot_bytes, slots_bytes, record_bytes, records_bytes, table_bytes}
use Rattle.icu_decimal_data.proofs.RecordLaws.{length-records}

-- a place lies in its literal
pub placeholder_inside : (p : PatternText) (placeholder : ℕ) → PlaceholderFits p → p.placeholder ≡ Some placeholder → placeholder ≤ length p.literal
placeholder_inside p placeholder fits is = go p.placeholder is fits
  where
    go : (o : Option ℕ) → o ≡ Some placeholder → IfSome o (λ k. IsCharBoundary p.literal k) → placeholder ≤ length p.literal
    go None e h = absurd cc
    go (Some k) e h = let same : k ≡ placeholder = cc in rw (← same) h.0

-- what holds anyway holds on success
pub on_ok : {T E : Type 0} (r : Result T E) {A : Type 0} → A → OnOk r A
on_ok (Ok x) a = a
on_ok (Err e) a = tt

-- a pattern that is lent as a text is one of the backend
pub pattern_good : (accepts : PatternText → Bool) (p q : PatternText) (text : List ℕ) → IsUtf8 text → text ≡ q.literal → q ≡ p →
    IsTrue (accepts p) → ArePatterns accepts (Some p ∷ [])
pattern_good accepts p q text utf8 l same good =
    let is : is_utf8 p.literal ≡ true = ap is_utf8 (sym (l ∙ ap (λ (x : PatternText). x.literal) same)) ∙ is_utf8-from_IsUtf8 text utf8 in
    let yes : accepts p ≡ true = good in
    (rw (is, yes) refl, tt)

-- ---- slots

module _ (ss : List (Option PatternText)) (k : ℕ) (s : Option PatternText) (inside : k < length ss) (is : s ≡ slice_index_or ss k None) where
  first : drop k ss ≡ s ∷ drop (k + 1) ss
  first = drop-cons ss k None inside ∙ ap (λ (n : ℕ). slice_index_or ss k None ∷ drop n ss) (sym (add-one k))
      ∙ ap (λ (x : Option PatternText). x ∷ drop (k + 1) ss) (sym is)

  -- the pool with one literal more, and what is left
  pub pool_more : (pool next whole : List ℕ) → next ≡ pool ++ literal_of s → pool ++ slot_literals (drop k ss) ≡ whole →
      next ++ slot_literals (drop (k + 1) ss) ≡ whole
  pool_more pool next whole n h =
      ap (λ (x : List ℕ). x ++ slot_literals (drop (k + 1) ss)) n
      ∙ append_assoc pool (literal_of s) (slot_literals (drop (k + 1) ss))
      ∙ sym (ap (λ (x : List (Option PatternText)). pool ++ slot_literals x) first)
      ∙ h

  -- there is room for one literal more
  pub room_for : (pool whole : List ℕ) → pool ++ slot_literals (drop k ss) ≡ whole → length whole < 2 ^ 16 →
      length pool + length (literal_of s) < 2 ^ 16
  room_for pool whole h small =
      let all : pool ++ (literal_of s ++ slot_literals (drop (k + 1) ss)) ≡ whole =
      sym (ap (λ (x : List (Option PatternText)). pool ++ slot_literals x) first) ∙ h in
      omega (
        arith,
        ap length all,
        length-append pool (literal_of s ++ slot_literals (drop (k + 1) ss)),
        length-append (literal_of s) (slot_literals (drop (k + 1) ss)),
      )

  -- the records with one slot more, and what is left
  pub records_more : (records later pool next whole : List ℕ) → later ≡ records ++ slot_bytes (length pool) s → next ≡ pool ++ literal_of s →
      records ++ slots_bytes (length pool) (drop k ss) ≡ whole → later ++ slots_bytes (length next) (drop (k + 1) ss) ≡ whole
  records_more records later pool next whole r n h =
      let len : length next ≡ length pool + length (literal_of s) = ap length n ∙ length-append pool (literal_of s) in
      ap (λ (x : List ℕ). x ++ slots_bytes (length next) (drop (k + 1) ss)) r
      ∙ ap (λ (m : ℕ). (records ++ slot_bytes (length pool) s) ++ slots_bytes m (drop (k + 1) ss)) len
      ∙ append_assoc records (slot_bytes (length pool) s) (slots_bytes (length pool + length (literal_of s)) (drop (k + 1) ss))
      ∙ sym (ap (λ (x : List (Option PatternText)). records ++ slots_bytes (length pool) x) first)
      ∙ h

  -- the patterns that are left, with the one before them
  pub patterns_back : (accepts : PatternText → Bool) → ArePatterns accepts (s ∷ []) → ArePatterns accepts (drop (k + 1) ss) →
      ArePatterns accepts (drop k ss)
  patterns_back accepts one rest = subst (λ (x : List (Option PatternText)). ArePatterns accepts x) (sym first) (joined s one)
    where
      joined : (o : Option PatternText) → ArePatterns accepts (o ∷ []) → ArePatterns accepts (o ∷ drop (k + 1) ss)
      joined None h = rest
      joined (Some p) h = (h.0, rest)

-- ---- entries

-- What is written of a table that is to be written whole, where some entries are left.
pub record IsWritten (accepts : PatternText → Bool) (left whole : List TableEntry) (records pool : List ℕ) : Type 0 where
  pub records_left : records ++ records_bytes (length pool) left ≡ records_bytes 0 whole
  pub pool_left : pool ++ literals left ≡ literals whole
  pub writable_left : AreWritable accepts left → AreWritable accepts whole

-- before the first entry nothing is written
pub none_written : (accepts : PatternText → Bool) (whole : List TableEntry) → IsWritten accepts whole whole [] []
none_written accepts whole = record { records_left = refl; pool_left = refl; writable_left = λ h. h }

module _ (accepts : PatternText → Bool) (e : TableEntry) (left whole : List TableEntry) (records pool : List ℕ)
    (h : IsWritten accepts (e ∷ left) whole records pool) where
  pub entry_room : length (literals whole) < 2 ^ 16 → length pool + length (slot_literals (slots e.elements)) < 2 ^ 16
  entry_room small =
      omega (
        arith,
        ap length h.pool_left,
        length-append pool (slot_literals (slots e.elements) ++ literals left),
        length-append (slot_literals (slots e.elements)) (literals left),
      )

  pub entry_written : (later next : List ℕ) → later ≡ ((records ++ e.log10_type ∷ []) ++ e.exponent ∷ [])
      ++ slots_bytes (length pool) (slots e.elements) → next ≡ pool ++ slot_literals (slots e.elements) → e.log10_type < 256 →
      ArePatterns accepts (slots e.elements) → IsWritten accepts left whole later next
  entry_written later next r n small patterns =
      let lits = slot_literals (slots e.elements) in
      let bytes = slots_bytes (length pool) (slots e.elements) in
      let len : length next ≡ length pool + length lits = ap length n ∙ length-append pool lits in
      let one : later ≡ records ++ record_bytes (length pool) e =
      r ∙ append_assoc (records ++ e.log10_type ∷ []) (e.exponent ∷ []) bytes ∙ append_assoc records (e.log10_type ∷ []) (e.exponent ∷ bytes) in
      record {
        records_left =
            ap (λ (x : List ℕ). x ++ records_bytes (length next) left) one
            ∙ ap (λ (m : ℕ). (records ++ record_bytes (length pool) e) ++ records_bytes m left) len
            ∙ append_assoc records (record_bytes (length pool) e) (records_bytes (length pool + length lits) left)
            ∙ h.records_left;
        pool_left = ap (λ (x : List ℕ). x ++ literals left) n ∙ append_assoc pool lits (literals left) ∙ h.pool_left;
        writable_left = λ rest. h.writable_left (small, patterns, rest);
      }

-- an entry that is kept of those that are left
module _ (accepts : PatternText → Bool) (zero_magnitude last : Option PatternElements) (e : TableEntry) (es whole : List TableEntry) (records pool : List ℕ)
    (kept : stays zero_magnitude last e.elements ≡ true) (h : IsWritten accepts (kept_since zero_magnitude last (e ∷ es)) whole records pool) where
  now_left : IsWritten accepts (e ∷ kept_since zero_magnitude (Some e.elements) es) whole records pool
  now_left = rw kept at h

  -- there is room for the literals of a kept entry
  pub kept_room : length (literals whole) < 2 ^ 16 → length pool + length (slot_literals (slots e.elements)) < 2 ^ 16
  kept_room = entry_room accepts e (kept_since zero_magnitude (Some e.elements) es) whole records pool now_left

  -- a kept entry is written
  pub kept_written : (later next : List ℕ) → later ≡ ((records ++ e.log10_type ∷ []) ++ e.exponent ∷ [])
      ++ slots_bytes (length pool) (slots e.elements) → next ≡ pool ++ slot_literals (slots e.elements) → e.log10_type < 256 →
      ArePatterns accepts (slots e.elements)
      → IsWritten accepts (kept_since zero_magnitude (Some e.elements) es) whole later next
  kept_written = entry_written accepts e (kept_since zero_magnitude (Some e.elements) es) whole records pool now_left

-- where no entry is left, the records are those of the whole table
pub all_records : (accepts : PatternText → Bool) (whole : List TableEntry) (records pool : List ℕ) → IsWritten accepts [] whole records pool →
    records ≡ records_bytes 0 whole
all_records accepts whole records pool h = sym (append-nil records) ∙ h.records_left

-- where no entry is left, the pool is the literals of the whole table
pub all_pool : (accepts : PatternText → Bool) (whole : List TableEntry) (records pool : List ℕ) → IsWritten accepts [] whole records pool →
    pool ≡ literals whole
all_pool accepts whole records pool h = sym (append-nil pool) ∙ h.pool_left

-- where no entry is left, the whole table is writable
pub all_writable : (accepts : PatternText → Bool) (whole : List TableEntry) (records pool : List ℕ) → IsWritten accepts [] whole records pool →
    AreWritable accepts whole
all_writable accepts whole records pool h = h.writable_left tt

-- ---- the whole

-- how many entries there are, by the length of their records
pub count_is : (records : List ℕ) (table : List TableEntry) → records ≡ records_bytes 0 table → length records / 58 ≡ length table
count_is records table h = let len : length records ≡ 58 * length table = ap length h ∙ length-records 0 table in omega arith

-- two lengths, the records and the pool are the table's bytes
pub whole_is : (table : List TableEntry) (records pool : List ℕ) (count len : ℕ) → records ≡ records_bytes 0 table → pool ≡ literals table →
    count ≡ length table → len ≡ length pool
    → ((([] ++ number_bytes count) ++ number_bytes len) ++ records) ++ pool ≡ table_bytes table
unfolding table_bytes
whole_is table records pool count len r p c l = rw (c, l, r, p) refl

-- what the writing of a table needs
pub ruleset writing = (placeholder_inside, none_written, entry_room, all_records, all_pool, all_writable)
