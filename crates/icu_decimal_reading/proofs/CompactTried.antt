-- The loop over a table's exponents: what it has tried is told by the rest of the table.
use Rattle.std.proofs.Common.{◌≡◌, ℕ, zero, suc, ◌+◌, ◌<◌, ◌≤◌, ◌∙◌, max, sym, ap, subst, refl, arith}
use Rattle.std.proofs.Common.{List, [], ◌∷◌, length, drop, All}
use Rattle.std.specs.Prelude.{slice_get}
use Rattle.std.proofs.lemmas.List.Elements.{All-cons, All-nil}
use Rattle.fixed_decimal.specs.Unsigned.{Unsigned}
use Rattle.icu_decimal_data.specs.CompactTable.{TableEntry, exponent_of}
use Rattle.icu_decimal.specs.CompactFormat.{CompactFormat}
use Rattle.icu_decimal_reading.specs.CompactReading.{differs_by, differs_with, IsOfNoSign}

-- an entry, and the entries behind it
pub record IsEntryAt (table : List TableEntry) (i : ℕ) : Type 0 where
  pub entry : TableEntry
  pub rest : drop i table ≡ entry ∷ drop (i + 1) table
  pub exponent : exponent_of (slice_get table i) ≡ entry.exponent

entry_at : (table : List TableEntry) (i : ℕ) → i < length table → IsEntryAt table i
entry_at [] i within = absurd (omega arith)
entry_at (e ∷ es) zero within = record { entry = e; rest = refl; exponent = refl }
entry_at (e ∷ es) (suc i) within =
    let behind = entry_at es i (omega arith) in
    let next : suc (i + 1) ≡ suc i + 1 = omega arith in
    record { entry = behind.entry; rest = behind.rest ∙ ap (λ n. behind.entry ∷ drop n (e ∷ es)) next; exponent = behind.exponent }

none_left : (table : List TableEntry) (i : ℕ) → length table ≤ i → drop i table ≡ []
none_left [] zero past = refl
none_left [] (suc i) past = refl
none_left (e ∷ es) zero past = absurd (omega arith)
none_left (e ∷ es) (suc i) past = none_left es i (omega arith)

module _ (f : CompactFormat) (cs : List ℕ) (u : Unsigned) where
  -- the text is of no sign with the exponents of these entries
  abbrev pub IsNone : List TableEntry → Type 0
  IsNone es = All (λ (e : TableEntry). IsOfNoSign f cs u e.exponent) es

  -- so many entries are tried, and the greatest byte so far
  pub record IsTried (i near : ℕ) : Type 0 where
    pub same : max near (differs_by f cs u (drop i f.table)) ≡ differs_by f cs u f.table
    pub none : IsNone (drop i f.table) → IsNone f.table

  pub tried_begins : IsTried 0 0
  tried_begins = record { same = omega arith; none = λ h. h }

  -- one more is tried
  pub tried_goes_on : (i near byte : ℕ) → i < length f.table → byte ≡ differs_with f cs u (exponent_of (slice_get f.table i)) →
      IsOfNoSign f cs u (exponent_of (slice_get f.table i)) → IsTried i near → IsTried (i + 1) (max byte near)
  tried_goes_on i near byte within is out h =
      let here = entry_at f.table i within in
      let e : byte ≡ differs_with f cs u here.entry.exponent = is ∙ ap (differs_with f cs u) here.exponent in
      let whole : max near (max (differs_with f cs u here.entry.exponent) (differs_by f cs u (drop (i + 1) f.table))) ≡ differs_by f cs u f.table =
      ap (λ es. max near (differs_by f cs u es)) (sym here.rest) ∙ h.same in
      record {
        same = swapped byte near (differs_with f cs u here.entry.exponent) (differs_by f cs u (drop (i + 1) f.table)) e ∙ whole;
        none = λ k. h.none (subst IsNone (sym here.rest) (All-cons (λ (x : TableEntry). IsOfNoSign f cs u x.exponent) here.entry (drop (i + 1) f.table)
            (subst (IsOfNoSign f cs u) here.exponent out) k));
      }
    where
      swapped : (a b x y : ℕ) → a ≡ x → max (max a b) y ≡ max b (max x y)
      swapped a b x y e = omega arith

  -- all are tried
  pub tried_ends : (i near : ℕ) → length f.table ≤ i → IsTried i near → (near ≡ differs_by f cs u f.table) × IsNone f.table
  tried_ends i near past h = (
    none near ∙ ap (λ es. max near (differs_by f cs u es)) (sym (none_left f.table i past)) ∙ h.same,
    h.none (subst IsNone (sym (none_left f.table i past)) (All-nil (λ (e : TableEntry). IsOfNoSign f cs u e.exponent))),
  )
    where
      none : (n : ℕ) → n ≡ max n 0
      none n = omega arith
