-- What is asked of a table in its bytes.
-- The parts serve calls of `CompactPatterns`. `is_compact`: `AreEntries` relates neighbours and `IsCompactTable` all pairs, so `each_above`
-- is an induction that carries the lower entry on. `same_bytes`: no slots are compared, as the bytes are those in which the table is
-- written (`bytes_are`, of PackedTables). `reached_is`: an induction over the entries with the count that the search found.
-- `sole_is_selected`: seven absent slots, taken apart one by one, then the three cases of exactly zero, exactly one and the category.
use Rattle.std.proofs.Common.{◌≡◌, ℕ, zero, suc, ◌+◌, ◌*◌, ◌<◌, ◌≤◌, Bool, true, false, List, [], ◌∷◌, length, slice_get}
use Rattle.std.proofs.Common.{slice_index, Option, Some, None, nat_le, nat_eq, cond, refl, sym, ap, ◌∙◌, arith, subst}
use Rattle.std.specs.Prelude.{is_none, IfSome, if◌then◌else◌, unwrap_or}
use Rattle.std.specs.List.{list_all}
use Rattle.std.specs.Cmp.Lexicographic.{pointwise}
use Rattle.std.specs.Option.{option_map}
use Rattle.std.proofs.lemmas.List.Sums.{sum_by-cons}
use Rattle.std.proofs.lemmas.Slice.Eq.{bytes_eq-Decides}
use Rattle.std.proofs.lemmas.Bool.{and_parts}
use Rattle.icu_plurals.specs.Elements.{selected, sole_value, is_exactly, category_value}
use Rattle.icu_plurals.specs.Operands.{Operands}
use Rattle.icu_pattern.specs.Patterns.{PatternText}
use Rattle.icu_plurals.specs.declared.category.PluralCategory.{PluralCategory}
use Rattle.icu_plurals.specs.declared.category.PluralCategory.TheVariants.{Zero, One, Two, Few, Many, Other}
use Rattle.icu_decimal_data.specs.CompactTable.{PatternElements, TableEntry, IsCompactTable, type_place, reached, log10_type_of, exponent_of}
use Rattle.icu_decimal_data.specs.SameTable.{same_table}
use Rattle.icu_decimal_data.specs.PackedTable.{IsBackend, IsPackable, AreEntries}
use Rattle.icu_decimal_data.specs.TableBytes.{table_bytes}
use Rattle.icu_decimal_data.specs.TableReading.{entry_of, count_in, type_in, exponent_in, table_in, table_step, IsTableBytes, IsReached}
use Rattle.icu_decimal_data.proofs.TableBasics.{IsBytes}
use Rattle.icu_decimal_data.proofs.KeptTables.{Each, Pairs, each_weaker, all_each, all_pairs}
use Rattle.icu_decimal_data.proofs.SameEntries.{same_table-Decides}
use Rattle.icu_decimal_data.proofs.PackedTables.{is_found, table_again}
use Rattle.icu_decimal_data.proofs.TableSearch.{searchable, entry_at, length-table, type_is, exponent_is, place_here, entry_index_in}

-- ---- the table is a compact table

module _ (accepts : PatternText → Bool) where
  each_above : (b : TableEntry) (es : List TableEntry) → AreEntries accepts (Some b) es →
      Each (λ f. b.log10_type < f.log10_type) es × Each (λ f. b.exponent ≤ f.exponent) es
  each_above b [] h = (tt, tt)
  each_above b (x ∷ es) h =
      let type_on : b.log10_type < x.log10_type = h.1.0 in
      let exponent_on : b.exponent ≤ x.exponent = h.1.1 in
      let rest = each_above x es h.2 in (
        (type_on, each_weaker (λ f. x.log10_type < f.log10_type) (λ f. b.log10_type < f.log10_type) (λ f g. omega arith) es rest.0),
        (exponent_on, each_weaker (λ f. x.exponent ≤ f.exponent) (λ f. b.exponent ≤ f.exponent) (λ f g. omega arith) es rest.1),
      )

  all_rise : (b : Option TableEntry) (es : List TableEntry) → AreEntries accepts b es →
      Pairs (λ e f. e.log10_type < f.log10_type) es × Pairs (λ e f. e.exponent ≤ f.exponent) es
  all_rise b [] h = (tt, tt)
  all_rise b (x ∷ es) h =
      let here = each_above x es h.2 in
      let rest = all_rise (Some x) es h.2 in
      ((here.0, rest.0), (here.1, rest.1))

  all_near : (b : Option TableEntry) (es : List TableEntry) → AreEntries accepts b es →
      Each (λ e. e.exponent ≤ e.log10_type) es × Each (λ e. e.log10_type ≤ e.exponent + 15) es
  all_near b [] h = (tt, tt)
  all_near b (x ∷ es) h = let rest = all_near (Some x) es h.2 in ((h.0.below, rest.0), (h.0.few_zeros, rest.1))

  -- the table in a table's bytes is a compact table
  pub is_compact : (bytes : List ℕ) → IsTableBytes accepts bytes → IsCompactTable (table_in bytes)
  is_compact bytes h =
      let entries = (is_found accepts bytes h.are_bytes h.read).0.entries in
      let rise = all_rise None (table_in bytes) entries in
      let near = all_near None (table_in bytes) entries in
      record {
        types_rise = all_pairs _ _ rise.0;
        exponents_never_fall = all_pairs _ _ rise.1;
        exponents_small = all_each _ _ near.0;
        shifts_small = all_each _ _ near.1;
      }

  -- its bytes are those that it is written in
  pub bytes_are : (bytes : List ℕ) → IsTableBytes accepts bytes → bytes ≡ table_bytes (table_in bytes)
  bytes_are bytes h = (is_found accepts bytes h.are_bytes h.read).1

  -- bytes in which a table is written are read, as that table
  pub written_is_table : (bytes : List ℕ) (t : List TableEntry) → IsBackend accepts → IsPackable accepts t → bytes ≡ table_bytes t →
      IsBytes bytes → IsTableBytes accepts bytes
  written_is_table bytes t backend h e fits =
      let step = ap (table_step accepts) e ∙ (table_again accepts backend t h).0 in
      record { read = rw step refl; are_bytes = fits }

  -- tables are the same just where their bytes are
  pub same_bytes : (a b : List ℕ) → IsTableBytes accepts a → IsTableBytes accepts b → pointwise nat_eq a b ≡ same_table (table_in a) (table_in b)
  same_bytes a b ha hb = agree (pointwise nat_eq a b) (same_table (table_in a) (table_in b))
      (λ p. (same_table-Decides (table_in a) (table_in b)).1 (ap table_in ((bytes_eq-Decides a b).0 p)))
      (λ q. (bytes_eq-Decides a b).1 (bytes_are a ha ∙ ap table_bytes ((same_table-Decides (table_in a) (table_in b)).0 q) ∙ sym (bytes_are b hb)))
    where
      agree : (x y : Bool) → (x ≡ true → y ≡ true) → (y ≡ true → x ≡ true) → x ≡ y
      agree true y f g = sym (f refl)
      agree false true f g = g refl
      agree false false f g = refl

-- ---- how many entries are reached

count_reached : (table : List TableEntry) (m k : ℕ) → k ≤ length table →
    ((i : ℕ) (e : TableEntry) → slice_get table i ≡ Some e → i < k → nat_le (type_place e) m ≡ true)
    → ((i : ℕ) (e : TableEntry) → slice_get table i ≡ Some e → k ≤ i → nat_le (type_place e) m ≡ false) → k ≡ reached table m
count_reached [] m zero le on off = refl
count_reached [] m (suc k) le on off = absurd (omega arith)
count_reached (e ∷ es) m zero le on off =
    let rest = count_reached es m 0 (omega arith) (λ i f p lt. absurd (omega arith)) (λ i f p l. off (suc i) f p (omega arith)) in
    let here : nat_le (type_place e) m ≡ false = off 0 e refl (omega arith) in
    let n : reached (e ∷ es) m ≡ reached es m = sum_by-cons (λ x. cond (nat_le (type_place x) m) 1 0) e es ∙ rw here (omega arith) in
    rest ∙ sym n
count_reached (e ∷ es) m (suc k) le on off =
    let rest = count_reached es m k (omega arith) (λ i f p lt. on (suc i) f p (omega arith)) (λ i f p l. off (suc i) f p (omega arith)) in
    let here : nat_le (type_place e) m ≡ true = on 0 e refl (omega arith) in
    let n : reached (e ∷ es) m ≡ suc (reached es m) = sum_by-cons (λ x. cond (nat_le (type_place x) m) 1 0) e es ∙ rw here (omega arith) in
    ap suc rest ∙ sym n

-- the search counts just the entries that are reached
pub reached_is : (bytes : List ℕ) (m k : ℕ) → IsReached bytes m k → k ≡ reached (table_in bytes) m
reached_is bytes m k r =
    let len = length-table bytes in
    count_reached (table_in bytes) m k (omega (arith, r.within)) (λ i e p lt. place_here bytes m i e p ∙ r.below i lt)
    (λ i e p le. place_here bytes m i e p ∙ r.above i le (entry_index_in bytes i e p))

-- ---- by index

-- an index of the table is one of its records
pub index_inside : (bytes : List ℕ) (i : ℕ) → i < length (table_in bytes) → i < count_in bytes
index_inside bytes i h = omega (arith, length-table bytes)

-- the byte of a type is the type of the table's entry
pub type_at_index : (bytes : List ℕ) (i : ℕ) → i < count_in bytes → type_in bytes i ≡ log10_type_of (slice_get (table_in bytes) i)
type_at_index bytes i h = type_is bytes i ∙ sym (ap log10_type_of (entry_at bytes i h))

-- the byte of an exponent is the exponent of the table's entry
pub exponent_at_index : (bytes : List ℕ) (i : ℕ) → i < count_in bytes → exponent_in bytes i ≡ exponent_of (slice_get (table_in bytes) i)
exponent_at_index bytes i h = exponent_is bytes i ∙ sym (ap exponent_of (entry_at bytes i h))

-- what holds of the entry in the bytes holds of the table's entry
pub of_entry : (bytes : List ℕ) (i : ℕ) (Q : TableEntry → Type 0) → i < count_in bytes → Q (entry_of bytes i) →
    IfSome (slice_get (table_in bytes) i) Q
of_entry bytes i Q h q = subst (λ (o : Option TableEntry). IfSome o Q) (sym (entry_at bytes i h)) q

-- a table of length 0 has no entry
pub nothing_is : (t : List TableEntry) → length t ≡ 0 → t ≡ []
nothing_is [] h = refl
nothing_is (e ∷ es) h = absurd (omega arith)

-- ---- a pattern for all numbers and no other

none_there : (o : Option PatternText) → is_none o ≡ true → o ≡ None
none_there None h = refl
none_there (Some p) h = absurd cc

-- a pattern for all numbers and no other is what every number picks
pub sole_is_selected : (e : PatternElements) (p : PatternText) → sole_value e ≡ Some p → (o : Operands) (category : PluralCategory) →
    selected e o category ≡ p
sole_is_selected e p h o category = go (list_all is_none (e.explicit_zero ∷ e.explicit_one ∷ e.zero ∷ e.one ∷ e.two ∷ e.few ∷ e.many ∷ [])) refl h
  where
    by_parts : (zero one : Bool) (z w c : Option PatternText) → z ≡ None → w ≡ None → c ≡ None →
        unwrap_or (if zero then z else if one then w else None) (unwrap_or c e.other) ≡ e.other
    by_parts true one z w c a b d = rw (a, d) refl
    by_parts false true z w c a b d = rw (b, d) refl
    by_parts false false z w c a b d = rw d refl

    go : (all : Bool) → list_all is_none (e.explicit_zero ∷ e.explicit_one ∷ e.zero ∷ e.one ∷ e.two ∷ e.few ∷ e.many ∷ []) ≡ all →
        (if all then Some e.other else None) ≡ Some p → selected e o category ≡ p
    go false n s = absurd cc
    go true n s =
        let r0 = and_parts (is_none e.explicit_zero) _ n in
        let r1 = and_parts (is_none e.explicit_one) _ r0.1 in
        let r2 = and_parts (is_none e.zero) _ r1.1 in
        let r3 = and_parts (is_none e.one) _ r2.1 in
        let r4 = and_parts (is_none e.two) _ r3.1 in
        let r5 = and_parts (is_none e.few) _ r4.1 in
        let r6 = and_parts (is_none e.many) _ r5.1 in
        let same : e.other ≡ p = cc in
        by_parts (is_exactly 0 o) (is_exactly 1 o) e.explicit_zero e.explicit_one (category_value e category) (none_there _ r0.0) (none_there _ r1.0)
        (by_category category (none_there _ r2.0) (none_there _ r3.0) (none_there _ r4.0) (none_there _ r5.0) (none_there _ r6.0)) ∙ same
      where
        by_category : (c : PluralCategory) → e.zero ≡ None → e.one ≡ None → e.two ≡ None → e.few ≡ None → e.many ≡ None →
            category_value e c ≡ None
        by_category Zero a b c d f = a
        by_category One a b c d f = b
        by_category Two a b c d f = c
        by_category Few a b c d f = d
        by_category Many a b c d f = f
        by_category Other a b c d f = refl

-- a sole pattern is what every number picks
pub sole_picked : {R : Type 0} (r : Option R) (text : R → PatternText) (e : PatternElements) → option_map text r ≡ sole_value e →
    IfSome r (λ p. (o : Operands) (category : PluralCategory) → selected e o category ≡ text p)
sole_picked None text e h = tt
sole_picked (Some x) text e h = λ o category. sole_is_selected e (text x) (sym h) o category

-- what most calls of `CompactPatterns` need
pub ruleset calls = (searchable, is_compact, bytes_are, index_inside, type_at_index, exponent_at_index, nothing_is, length-table)
