-- The slots of an entry in a table's bytes.
-- What each record shows is `table_read` of PackedTables. `slot_is` takes a slot of it: `slot_in_list`, an induction over the slots, finds it
-- in the record's bytes, and `slot_here` finds these in the table's bytes, by equations of `take` and `drop`. That a pattern is one of the
-- backend comes from the table's entries (`slot_pattern`), not from the steps of the check. Then the same is said of the bytes that the code
-- has in hand, which equal the slot's (`found`). `sole_steps` are the cases of the loop over the first seven slots.
use Rattle.std.proofs.Common.{◌≡◌, ℕ, zero, suc, ◌+◌, ◌-◌, ◌*◌, ◌<◌, Bool, true, false, not, ◌&&◌, List, [], ◌∷◌, length}
use Rattle.std.proofs.Common.{take, drop, drop-cons, add-one, slice_index, slice_index_or, slice_get, Option, Some, None, IsTrue, eqb, refl, sym, ap, ◌∙◌}
use Rattle.std.proofs.Common.{arith, subst, inl, inr}
use Rattle.std.specs.Prelude.{is_some, is_none, if◌then◌else◌}
use Rattle.std.specs.List.{list_all}
use Rattle.std.specs.Str.{is_utf8, IsUtf8}
use Rattle.std.proofs.lemmas.Bool.{cases_Bool, eqb-true, eq-eqb, and_parts}
use Rattle.std.proofs.lemmas.List.{drop-drop, take-take, drop-take}
use Rattle.std.proofs.lemmas.Str.{IsUtf8-from_is_utf8}
use Rattle.icu_pattern.specs.Patterns.{PatternText}
use Rattle.icu_plurals.specs.Elements.{slots}
use Rattle.icu_decimal_data.specs.CompactTable.{TableEntry}
use Rattle.icu_decimal_data.specs.PackedTable.{is_pattern, ArePatterns, IsEntry, AreEntries}
use Rattle.icu_decimal_data.specs.TableReading.{pattern_in, slot_in, slots_in, entry_of, count_in, pool_in, table_in, table_step, slot_of, IsTableBytes}
use Rattle.icu_decimal_data.proofs.PackedTables.{ok_value, is_found, table_read}
use Rattle.icu_decimal_data.proofs.TableSearch.{entry_at}

slot_in_list : (pool : List ℕ) (n : ℕ) (bytes : List ℕ) (j : ℕ) → j < n →
    slice_index_or (slots_in pool n bytes) j None ≡ slot_in pool (take 7 (drop (7 * j) bytes))
slot_in_list pool zero bytes j h = absurd (omega arith)
slot_in_list pool (suc n) bytes zero h = refl
slot_in_list pool (suc n) bytes (suc j) h =
    let more : 7 + 7 * j ≡ 7 * suc j = omega arith in
    slot_in_list pool n (drop 7 bytes) j (omega arith) ∙ ap (λ (r : List ℕ). slot_in pool (take 7 r))
    (drop-drop (7 * j) 7 bytes ∙ ap (λ (k : ℕ). drop k bytes) more)

-- where a slot of a record is in the bytes
slot_here : (bytes : List ℕ) (i j : ℕ) → j < 8 → take 7 (drop (7 * j) (drop 2 (take 58 (drop (58 * i) (drop 4 bytes))))) ≡ slot_of bytes i j
slot_here bytes i j h =
    let record_on = drop (58 * i) (drop 4 bytes) in
    let count : 7 * j + (56 - 7 * j) ≡ 56 = omega arith in
    let width : 6 + 58 * i + 7 * j + 7 - (6 + 58 * i + 7 * j) ≡ 7 = omega arith in
    let place : 4 + 58 * i + 2 + 7 * j ≡ 6 + 58 * i + 7 * j = omega arith in
    ap (λ (r : List ℕ). take 7 (drop (7 * j) r)) (drop-take 2 56 record_on)
    ∙ ap (λ (k : ℕ). take 7 (drop (7 * j) (take k (drop 2 record_on)))) (sym count)
    ∙ ap (λ (r : List ℕ). take 7 r) (drop-take (7 * j) (56 - 7 * j) (drop 2 record_on))
    ∙ take-take 7 (56 - 7 * j) (drop (7 * j) (drop 2 record_on)) (omega arith)
    ∙ ap (λ (r : List ℕ). take 7 (drop (7 * j) (drop 2 r))) (drop-drop (58 * i) 4 bytes)
    ∙ ap (λ (r : List ℕ). take 7 (drop (7 * j) r)) (drop-drop 2 (4 + 58 * i) bytes)
    ∙ ap (λ (r : List ℕ). take 7 r) (drop-drop (7 * j) (4 + 58 * i + 2) bytes)
    ∙ ap (λ (k : ℕ). take 7 (drop k bytes)) place
    ∙ ap (λ (k : ℕ). take k (drop (6 + 58 * i + 7 * j) bytes)) (sym width)

module _ (accepts : PatternText → Bool) where
  entry_is : (b : Option TableEntry) (es : List TableEntry) → AreEntries accepts b es → (i : ℕ) (e : TableEntry) → slice_get es i ≡ Some e →
      IsEntry accepts e
  entry_is b [] h i e p = absurd cc
  entry_is b (x ∷ es) h zero e p = let same : x ≡ e = cc in subst (λ (y : TableEntry). IsEntry accepts y) same h.0
  entry_is b (x ∷ es) h (suc i) e p = entry_is (Some x) es h.2 i e p

  pattern_at : (ss : List (Option PatternText)) → ArePatterns accepts ss → (j : ℕ) (p : PatternText) → slice_index_or ss j None ≡ Some p →
      IsTrue (is_pattern accepts p)
  pattern_at [] h j p e = absurd cc
  pattern_at (None ∷ ss) h zero p e = absurd cc
  pattern_at (Some q ∷ ss) h zero p e = let same : q ≡ p = cc in subst (λ (r : PatternText). IsTrue (is_pattern accepts r)) same h.0
  pattern_at (None ∷ ss) h (suc j) p e = pattern_at ss h j p e
  pattern_at (Some q ∷ ss) h (suc j) p e = pattern_at ss h.1 j p e

  -- a slot of an entry is what its seven bytes say
  pub slot_is : (bytes : List ℕ) (i j : ℕ) → IsTableBytes accepts bytes → i < count_in bytes → j < 8 →
      slice_index_or (slots (entry_of bytes i).elements) j None ≡ slot_in (pool_in bytes) (slot_of bytes i j)
  slot_is bytes i j h inside lt =
      let v = ok_value (table_step accepts bytes) h.read in
      let r = table_read accepts bytes v.0 h.are_bytes v.1 in
      let shown = r.records.shown i inside in
      ap (λ (ss : List (Option PatternText)). slice_index_or ss j None) (sym shown.elements)
      ∙ slot_in_list (pool_in bytes) 8 (drop 2 (take 58 (drop (58 * i) (drop 4 bytes)))) j lt
      ∙ ap (slot_in (pool_in bytes)) (slot_here bytes i j lt)

  -- a pattern in a slot is one of the backend
  pub slot_pattern : (bytes : List ℕ) (i j : ℕ) (p : PatternText) → IsTableBytes accepts bytes → i < count_in bytes → j < 8 →
      slot_in (pool_in bytes) (slot_of bytes i j) ≡ Some p → IsTrue (is_pattern accepts p)
  slot_pattern bytes i j p h inside lt e =
      let found = is_found accepts bytes h.are_bytes h.read in
      let entry = entry_is None (table_in bytes) found.0.entries i (entry_of bytes i) (entry_at bytes i inside) in
      pattern_at (slots (entry_of bytes i).elements) entry.patterns j p (slot_is bytes i j h inside lt ∙ e)

-- a slot that isn't absent has its pattern
pub slot_some : (pool slot : List ℕ) → eqb (slice_index slot 0) 0 ≡ false → slot_in pool slot ≡ Some (pattern_in pool slot)
slot_some pool slot h = rw h refl

-- an absent slot has no pattern
pub slot_none : (pool slot : List ℕ) → eqb (slice_index slot 0) 0 ≡ true → slot_in pool slot ≡ None
slot_none pool slot h = rw h refl

module _ (accepts : PatternText → Bool) (bytes : List ℕ) (i j : ℕ) (h : IsTableBytes accepts bytes) (inside : i < count_in bytes) (lt : j < 8)
    (some : eqb (slice_index (slot_of bytes i j) 0) 0 ≡ false) where
  good : (is_utf8 (pattern_in (pool_in bytes) (slot_of bytes i j)).literal ≡ true) × (accepts (pattern_in (pool_in bytes) (slot_of bytes i j)) ≡ true)
  good =
      let p = pattern_in (pool_in bytes) (slot_of bytes i j) in
      and_parts (is_utf8 p.literal) (accepts p) (slot_pattern accepts bytes i j p h inside lt (slot_some (pool_in bytes) (slot_of bytes i j) some))

  pub literal_is_text : IsUtf8 (pattern_in (pool_in bytes) (slot_of bytes i j)).literal
  literal_is_text = IsUtf8-from_is_utf8 _ good.0

  pub pattern_is_accepted : accepts (pattern_in (pool_in bytes) (slot_of bytes i j)) ≡ true
  pattern_is_accepted = good.1

  pub pattern_stands : slice_index_or (slots (entry_of bytes i).elements) j None ≡ Some (pattern_in (pool_in bytes) (slot_of bytes i j))
  pattern_stands = slot_is accepts bytes i j h inside lt ∙ slot_some (pool_in bytes) (slot_of bytes i j) some

-- ---- as the code reads it

zero_is : (x : ℕ) → x ≡ 0 → eqb x 0 ≡ true
zero_is x h = eq-eqb x 0 h

not_zero_is : (x : ℕ) → (x ≡ 0 → ⊥) → eqb x 0 ≡ false
not_zero_is x h =
    elim (cases_Bool (eqb x 0)) [
      | inl t ↦ absurd (h (eqb-true x 0 t))
      | inr f ↦ f
    ]

some_is : (b : Bool) (p : PatternText) → not b ≡ is_some (if b then None else Some p)
some_is true p = refl
some_is false p = refl

module _ (accepts : PatternText → Bool) (bytes : List ℕ) (i j : ℕ) (h : IsTableBytes accepts bytes) (inside : i < count_in bytes) (lt : j < 8)
    (found : List ℕ) (e : found ≡ slot_of bytes i j) where
  -- a slot is present exactly where its kind isn't 0
  pub present_is : not (eqb (slice_index found 0) 0) ≡ is_some (slice_index_or (slots (entry_of bytes i).elements) j None)
  present_is =
      ap (λ (r : List ℕ). not (eqb (slice_index r 0) 0)) e
      ∙ some_is (eqb (slice_index (slot_of bytes i j) 0) 0) (pattern_in (pool_in bytes) (slot_of bytes i j))
      ∙ sym (ap is_some (slot_is accepts bytes i j h inside lt))

  -- a kind of 0 is a slot without a pattern
  pub absent_is : slice_index found 0 ≡ 0 → None ≡ slice_index_or (slots (entry_of bytes i).elements) j None
  absent_is z = sym (slot_is accepts bytes i j h inside lt ∙ slot_none (pool_in bytes) (slot_of bytes i j)
      (zero_is _ (ap (λ (r : List ℕ). slice_index r 0) (sym e) ∙ z)))

  module _ (there : slice_index found 0 ≡ 0 → ⊥) where
    some : eqb (slice_index (slot_of bytes i j) 0) 0 ≡ false
    some = not_zero_is _ (λ z. there (ap (λ (r : List ℕ). slice_index r 0) e ∙ z))

    -- the literal of a present slot is UTF-8
    pub text_is : (literal pool : List ℕ) → literal ≡ (pattern_in pool found).literal → pool ≡ pool_in bytes → IsUtf8 literal
    text_is literal pool l p =
        let all : literal ≡ (pattern_in (pool_in bytes) (slot_of bytes i j)).literal =
        l ∙ ap (λ (r : List ℕ). (pattern_in r found).literal) p ∙ ap (λ (r : List ℕ). (pattern_in (pool_in bytes) r).literal) e in
        subst IsUtf8 (sym all) (literal_is_text accepts bytes i j h inside lt some)

    pub read_is : (p : PatternText) (pool : List ℕ) → p ≡ pattern_in pool found → pool ≡ pool_in bytes →
        p ≡ pattern_in (pool_in bytes) (slot_of bytes i j)
    read_is p pool is q = is ∙ ap (λ (r : List ℕ). pattern_in r found) q ∙ ap (pattern_in (pool_in bytes)) e

    -- the pattern of a present slot is one of the backend
    pub accepted_is : (p : PatternText) (pool : List ℕ) → p ≡ pattern_in pool found → pool ≡ pool_in bytes → accepts p ≡ true
    accepted_is p pool is q = ap accepts (read_is p pool is q) ∙ pattern_is_accepted accepts bytes i j h inside lt some

    -- the pattern that is read of a present slot stands there
    pub stands_is : (p : PatternText) (pool : List ℕ) → p ≡ pattern_in pool found → pool ≡ pool_in bytes →
        Some p ≡ slice_index_or (slots (entry_of bytes i).elements) j None
    stands_is p pool is q = ap (λ (x : PatternText). Some x) (read_is p pool is q) ∙ sym (pattern_stands accepts bytes i j h inside lt some)

-- what a slot has, by two names
pub same_value : (o : Option PatternText) (x y : PatternText) → Some x ≡ o → o ≡ Some y → x ≡ y
same_value o x y a b = let e : Some x ≡ Some y = a ∙ b in cc

-- a slot has a pattern or none, not both
pub no_value : (o : Option PatternText) (y : PatternText) → None ≡ o → o ≡ Some y → ⊥
no_value o y a b = let e : None ≡ Some y = a ∙ b in cc

-- ---- whether the first seven slots are absent

module _ {T : Type 0} where
  sole_step : (ss : List (Option T)) (k : ℕ) → k < 7 → k < length ss
      → list_all is_none (take (7 - k) (drop k ss)) ≡ (is_none (slice_index_or ss k None) && list_all is_none (take (7 - (k + 1)) (drop (k + 1) ss)))
  sole_step ss k lt inside =
      let more : 7 - k ≡ suc (7 - (k + 1)) = omega arith in
      let here : drop k ss ≡ slice_index_or ss k None ∷ drop (k + 1) ss =
      drop-cons ss k None inside ∙ ap (λ (n : ℕ). slice_index_or ss k None ∷ drop n ss) (sym (add-one k)) in
      rw (more, here) refl

  not_none : (o : Option T) → is_some o ≡ true → is_none o ≡ false
  not_none None h = absurd cc
  not_none (Some x) h = refl

  is_nothing : (o : Option T) → is_some o ≡ false → is_none o ≡ true
  is_nothing None h = refl
  is_nothing (Some x) h = absurd cc

  pub sole_ends : (ss : List (Option T)) (k : ℕ) (b all : Bool) → k < 7 → k < length ss → b ≡ is_some (slice_index_or ss k None) → b ≡ true →
      list_all is_none (take (7 - k) (drop k ss)) ≡ all → false ≡ all
  sole_ends ss k b all lt inside is h e = let n = not_none (slice_index_or ss k None) (sym is ∙ h) in
      sym (sole_step ss k lt inside ∙ ap (λ (x : Bool). x && list_all is_none (take (7 - (k + 1)) (drop (k + 1) ss))) n) ∙ e

  pub sole_goes_on : (ss : List (Option T)) (k : ℕ) (b all : Bool) → k < 7 → k < length ss → b ≡ is_some (slice_index_or ss k None) →
      b ≡ false → list_all is_none (take (7 - k) (drop k ss)) ≡ all → list_all is_none (take (7 - (k + 1)) (drop (k + 1) ss)) ≡ all
  sole_goes_on ss k b all lt inside is h e = let n = is_nothing (slice_index_or ss k None) (sym is ∙ h) in
      sym (sole_step ss k lt inside ∙ ap (λ (x : Bool). x && list_all is_none (take (7 - (k + 1)) (drop (k + 1) ss))) n) ∙ e

  -- all seven were absent
  pub sole_done : (ss : List (Option T)) (k : ℕ) (all : Bool) → k ≡ 7 → list_all is_none (take (7 - k) (drop k ss)) ≡ all → true ≡ all
  sole_done ss k all e h = let none : 7 - k ≡ 0 = omega arith in sym (ap (λ (n : ℕ). list_all is_none (take n (drop k ss))) none) ∙ h

-- the steps of the loop over the first seven slots
pub ruleset sole_steps = (sole_ends, sole_goes_on, sole_done)
