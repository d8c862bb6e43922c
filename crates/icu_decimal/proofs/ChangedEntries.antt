-- When two entries of a table are the same.
use Rattle.std.proofs.Common.{◌≡◌, ◌≢◌, ℕ, zero, suc, ◌<◌, ◌≤◌, refl, arith, inl, inr, List, [], ◌∷◌, length, Option, Some, None}
use Rattle.std.proofs.Common.{IfSome, true, false, AllPairs, slice_get, is_some, eq-eqb, ne_eqb, nat_eq, get_or, ap}
use Rattle.std.specs.Option.{option_eq}
use Rattle.std.proofs.lemmas.Bool.{cases_order, eqb-true}
use Rattle.std.proofs.lemmas.Option.{get_or_from_slice_get}
use Rattle.fixed_decimal.specs.Size.{finest}
use Rattle.icu_decimal_data.specs.CompactTable.{TableEntry, IsIndex, type_place, entry_at, entry_for}
use Rattle.icu_decimal.specs.Decomposed.{are_same_entry}
use Rattle.icu_decimal.proofs.EntrySteps.{entry_reached}

-- inside a table there is an entry
is_some-slice_get : (table : List TableEntry) (i : ℕ) → i < length table → is_some (slice_get table i) ≡ true
is_some-slice_get [] i h = absurd (omega arith)
is_some-slice_get (e ∷ es) zero h = refl
is_some-slice_get (e ∷ es) (suc i) h = is_some-slice_get es i (omega arith)

-- an entry is the same as itself, and so is none
pub same_entry-itself : (o : Option TableEntry) → are_same_entry o o ≡ true
same_entry-itself None = refl
same_entry-itself (Some e) = eq-eqb e.log10_type e.log10_type refl

-- indices that compare as equal are equal
pub same_index : (r i : Option ℕ) → option_eq nat_eq r i ≡ true → r ≡ i
same_index None None e = refl
same_index None (Some i) e = absurd (cc)
same_index (Some r) None e = absurd (cc)
same_index (Some r) (Some i) e = ap (λ (n : ℕ). Some n) (eqb-true r i e)

module _ (table : List TableEntry) (rises : AllPairs (λ (e f : TableEntry). e.log10_type < f.log10_type) table) where
  -- an entry has a lower type than a later one
  type_lt : (i j : ℕ) (e f : TableEntry) → slice_get table i ≡ Some e → slice_get table j ≡ Some f → i < j → j < length table →
      e.log10_type < f.log10_type
  type_lt i j e f at_i at_j h inside =
      let first : (get_or table i e).log10_type ≡ e.log10_type = ap (λ (x : TableEntry). x.log10_type) (get_or_from_slice_get table i e e at_i) in
      let second : (get_or table j e).log10_type ≡ f.log10_type = ap (λ (x : TableEntry). x.log10_type) (get_or_from_slice_get table j f e at_j) in
      let below : (get_or table i e).log10_type < (get_or table j e).log10_type = rises i j e h inside in
      omega arith

  -- so the entries at two indices are not the same
  apart : (i j : ℕ) (o p : Option TableEntry) → slice_get table i ≡ o → slice_get table j ≡ p → is_some o ≡ true → is_some p ≡ true →
      i < length table → j < length table → i ≢ j → are_same_entry o p ≡ false
  apart i j None p at_i at_j some other hi hj ne = absurd (cc)
  apart i j (Some e) None at_i at_j some other hi hj ne = absurd (cc)
  apart i j (Some e) (Some f) at_i at_j some other hi hj ne = elim (cases_order i j) [
    | inl same ↦ absurd (ne same)
    | inr order ↦ elim order [
      | inl h ↦ ne_eqb e.log10_type f.log10_type (λ same. omega (arith, type_lt i j e f at_i at_j h hj))
      | inr h ↦ ne_eqb e.log10_type f.log10_type (λ same. omega (arith, type_lt j i f e at_j at_i h hi))
    ]
  ]

  -- and so are those at an index and at none
  pub other_index : (r i : Option ℕ) → IsIndex table r → IsIndex table i → option_eq nat_eq r i ≡ false →
      are_same_entry (entry_at table r) (entry_at table i) ≡ false
  other_index None None hr hi ne = absurd (cc)
  other_index None (Some i) hr hi ne = go (slice_get table i) (is_some-slice_get table i hi)
    where
      go : (o : Option TableEntry) → is_some o ≡ true → are_same_entry None o ≡ false
      go None some = absurd (cc)
      go (Some e) some = refl
  other_index (Some r) None hr hi ne = go (slice_get table r) (is_some-slice_get table r hr)
    where
      go : (o : Option TableEntry) → is_some o ≡ true → are_same_entry o None ≡ false
      go None some = absurd (cc)
      go (Some e) some = refl
  other_index (Some r) (Some i) hr hi ne =
      apart r i (slice_get table r) (slice_get table i) refl refl (is_some-slice_get table r hr) (is_some-slice_get table i hi) hr hi
      (λ same. let equal = eq-eqb r i same in absurd (cc))

-- where the entry of a magnitude is not that of a lower one, the magnitude is that of the number one at least
pub changed_entry_reached : (table : List TableEntry) (m to : ℕ) → m ≤ to → are_same_entry (entry_for table to) (entry_for table m) ≡ false →
    finest ≤ to
changed_entry_reached table m to h = go (entry_for table to) (entry_for table m) (entry_reached table to) (entry_reached table m)
  where
    go : (o p : Option TableEntry) → IfSome o (λ e. type_place e ≤ to) → IfSome p (λ e. type_place e ≤ m) → are_same_entry o p ≡ false →
        finest ≤ to
    go None None a b same = absurd (cc)
    go None (Some e) a b same = omega arith
    go (Some e) None a b same = omega arith
    go (Some e) (Some f) a b same = omega arith
