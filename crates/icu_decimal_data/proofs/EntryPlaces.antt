-- The entry of a magnitude by its index, and the one after it.
use Rattle.std.proofs.Common.{◌≡◌, ℕ, zero, suc, ◌+◌, ◌-◌, ◌<◌, ◌≤◌, ◌⊎◌, ⊎_elim, refl, arith, sym, ap, ◌∙◌, List, []}
use Rattle.std.proofs.Common.{◌∷◌, length, Option, Some, None, true, false, cond, nat_le, AllPairs, slice_get, ℤ, pos, negsuc, leb-true, leb-false}
use Rattle.std.proofs.Common.{le-leb, lt-ltb, le-ltb, inl, inr, int_le}
use Rattle.std.proofs.lemmas.Bool.{cases_Bool, cases_lt, lt-leb}
use Rattle.std.proofs.lemmas.List.Sums.{sum_by-cons, count_by-le-length}
use Rattle.std.specs.Option.{option_or}
use Rattle.fixed_decimal.specs.Size.{finest, place}
use Rattle.icu_decimal_data.specs.CompactTable.{IsCompactTable, TableEntry, type_place, entry_for, next_entry, reached, index_after}

-- there is a place below that of the power 0
pub finest_pos : 0 < finest
unfolding finest
finest_pos = omega arith

-- the type of an entry against a signed magnitude
pub int_le-place : (t : ℕ) (m : ℤ) → int_le (pos t) m ≡ nat_le (t + finest) (place m)
int_le-place t (pos n) =
    ⊎_elim (λ (h : t ≤ n). le-leb t n h ∙ sym (le-leb (t + finest) (finest + n) (omega arith)))
    (λ (h : n < t). lt-leb t n h ∙ sym (lt-leb (t + finest) (finest + n) (omega arith)))
    (le_or_lt t n)
  where
    le_or_lt : (a b : ℕ) → (a ≤ b) ⊎ (b < a)
    le_or_lt a b = ⊎_elim (λ h. inr h) (λ h. inl h) (cases_lt b a)
int_le-place t (negsuc n) = sym (lt-leb (t + finest) (finest - (n + 1)) (omega (arith, finest_pos)))

-- the element before the index
abbrev pub before : List TableEntry → ℕ → Option TableEntry
before table zero = None
before table (suc k) = slice_get table k

none_reached : (e : TableEntry) (es : List TableEntry) (m : ℕ) → m < type_place e →
    AllPairs (λ (a b : TableEntry). a.log10_type < b.log10_type) (e ∷ es) → (entry_for es m ≡ None) × (reached es m ≡ 0)
unfolding entry_for
none_reached e [] m above h = (refl, refl)
none_reached e (f ∷ fs) m above h =
    let over : m < type_place f = omega (arith, h 0 1 e (omega arith) (omega arith)) in
    let rest = none_reached f fs m over (λ i j d l g. h (suc i) (suc j) d (omega arith) (omega arith)) in
    let off : nat_le (type_place f) m ≡ false = lt-leb (type_place f) m over in
    (rw (rest.0, off), sum_by-cons (λ x. cond (nat_le (type_place x) m) 1 0) f fs ∙ rw (off, rest.1))

kept : (e : TableEntry) (es : List TableEntry) (j : ℕ) → j < length es → option_or (slice_get es j) (Some e) ≡ slice_get es j
kept e [] j h = absurd (omega arith)
kept e (f ∷ fs) zero h = refl
kept e (f ∷ fs) (suc j) h = kept e fs j (omega arith)

-- the last of a front that is one longer
pub front : (e : TableEntry) (es : List TableEntry) (k : ℕ) (o : Option TableEntry) → k ≤ length es → o ≡ before es k →
    option_or o (Some e) ≡ slice_get (e ∷ es) k
front e es zero o h is = rw is
front e es (suc j) o h is = rw is (kept e es j h)

-- of rising types, the entries reached are a front of the table
pub by_index : (table : List TableEntry) (m : ℕ) → AllPairs (λ (a b : TableEntry). a.log10_type < b.log10_type) table
    → (entry_for table m ≡ before table (reached table m)) × (next_entry table m ≡ slice_get table (reached table m))
unfolding entry_for next_entry
by_index [] m h = (refl, refl)
by_index (e ∷ es) m h =
    ⊎_elim
    (λ (on : nat_le (type_place e) m ≡ true).
    let rest = by_index es m (λ i j d l g. h (suc i) (suc j) d (omega arith) (omega arith)) in
    let n : reached (e ∷ es) m ≡ suc (reached es m) = sum_by-cons (λ x. cond (nat_le (type_place x) m) 1 0) e es ∙ rw on (omega arith) in (
      rw (n, on) (front e es (reached es m) (entry_for es m) (count_by-le-length (λ x. nat_le (type_place x) m) es) rest.0),
      rw (n, le-ltb m (type_place e) (leb-true (type_place e) m on)) rest.1,
    ))
    (λ (off : nat_le (type_place e) m ≡ false).
    let above : m < type_place e = leb-false (type_place e) m off in
    let rest = none_reached e es m above h in
    let n : reached (e ∷ es) m ≡ 0 = sum_by-cons (λ x. cond (nat_le (type_place x) m) 1 0) e es ∙ rw (off, rest.1) in
    (rw (n, off, rest.0), rw (n, lt-ltb m (type_place e) above)))
    (cases_Bool (nat_le (type_place e) m))

-- the entry of a magnitude by how many are reached
pub entry_none_at : (table : List TableEntry) (m n : ℕ) → IsCompactTable table → n ≡ reached table m → n ≡ 0 → None ≡ entry_for table m
entry_none_at table m n is e none = sym ((by_index table m is.types_rise).0 ∙ ap (before table) (sym e ∙ none))

-- some are reached: the last of them is the entry
pub entry_some_at : (table : List TableEntry) (m n : ℕ) → IsCompactTable table → n ≡ reached table m → 0 < n →
    slice_get table (n - 1) ≡ entry_for table m
entry_some_at table m n is e some = at n some ∙ ap (before table) e ∙ sym ((by_index table m is.types_rise).0)
  where
    at : (n : ℕ) → 0 < n → slice_get table (n - 1) ≡ before table n
    at zero some = absurd (omega arith)
    at (suc k) some = ap (slice_get table) (omega arith)

-- none is reached: the first one is next
pub next_none_at : (table : List TableEntry) (m n : ℕ) → IsCompactTable table → n ≡ reached table m → n ≡ 0 →
    next_entry table m ≡ slice_get table (index_after None)
next_none_at table m n is e none = (by_index table m is.types_rise).1 ∙ ap (slice_get table) (sym e ∙ none)

-- some are reached: the one behind them is next
pub next_some_at : (table : List TableEntry) (m n : ℕ) → IsCompactTable table → n ≡ reached table m → 0 < n →
    next_entry table m ≡ slice_get table (index_after (Some (n - 1)))
next_some_at table m n is e some = (by_index table m is.types_rise).1 ∙ ap (slice_get table) (sym e) ∙ ap (slice_get table) back
  where
    back : n ≡ n - 1 + 1
    back = omega arith
