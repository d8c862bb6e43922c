-- What holds of each pattern of a table, slot by slot and entry by entry.
-- The code's one loop serves three tests, so the lemmas are about any property P of exponents and patterns. A pattern of an entry stands in one
-- of eight fields (`HasPattern`), and the loop counts slots: `in_slots` and `slot_of` go between them, eight cases each. There is no induction:
-- a loop has all slots or entries before its index, and `entry_failed` and `slot_failed` have the one at the index.
-- The rest carries a claim along an equation, since the code has two texts where the definition has the sides of a pattern: `subst`, with the
-- family of claims written out.
use Rattle.std.proofs.Common.{◌≡◌, ℕ, zero, suc, ◌<◌, ◌↔◌, arith, refl, sym, ap, subst, List, [], ◌∷◌, length, slice_get}
use Rattle.std.proofs.Common.{slice_index_or, Option, Some, None, IfSome, IsSome, Bool, true, false, IsTrue, inl, inr}
use Rattle.std.proofs.lemmas.Option.{get_or_from_slice_get, slice_get_read, slice_get-get_or, slice_get_within}
use Rattle.fixed_decimal.specs.declared.signs.Sign.{Sign}
use Rattle.fixed_decimal.specs.declared.signs.Sign.TheVariants.{Negative, Positive, None as NoSign}
use Rattle.icu_plurals.specs.Elements.{slots}
use Rattle.icu_pattern.specs.Patterns.{PatternText, placeholder_alone}
use Rattle.icu_decimal_data.specs.CompactTable.{PatternElements, TableEntry}
use Rattle.icu_decimal_readable.specs.Readable.{Surroundings, sides, HasNoDigit, HasPattern, IsFreeOfDigits, IsReadableTable}
use Rattle.icu_decimal_readable.specs.declared.readable_table.Number.{Number}
use Rattle.icu_decimal_readable.specs.ReadableTable.{surroundings_of, AreDistinct, HasPlaceholderAndNoDigit, HoldsOfEntry, HoldsThroughout, IsDistinctFrom}
use Rattle.icu_decimal_readable.specs.ReadableTable.{IsDistinctThroughout}
use Rattle.icu_decimal_readable.specs.ReadableTable.{TellsNumbers}
use Rattle.icu_decimal_symbols.specs.Symbols.{SymbolTexts}

-- a pattern with a place and no digit
pub has_placeholder_of : (digits : List ℕ) (p : PatternText) (a : Surroundings) → a ≡ sides p → IsSome p.placeholder → HasNoDigit digits a.before →
    HasNoDigit digits a.after → HasPlaceholderAndNoDigit digits p
has_placeholder_of digits p a is some before after = record {
  has_placeholder = some;
  sides_free =
      subst (IsFreeOfDigits digits) is (record { before_free = before; after_free = after });
}

-- a pattern with a place and no digit has none around its place
pub sides_with_placeholder : (digits : List ℕ) (p : PatternText) (a : Surroundings) → a ≡ sides p → HasPlaceholderAndNoDigit digits p
    → IsFreeOfDigits digits a
sides_with_placeholder digits p a is h = subst (IsFreeOfDigits digits) (sym is) h.sides_free

-- the patterns of an entry are those in its slots
if_some : (P : PatternText → Type 0) (o : Option PatternText) → ((p : PatternText) → o ≡ Some p → P p) → IfSome o P
if_some P None h = tt
if_some P (Some p) h = h p refl

of_some : (P : PatternText → Type 0) (o : Option PatternText) (p : PatternText) → IfSome o P → o ≡ Some p → P p
of_some P o p h is = subst (λ (x : Option PatternText). IfSome x P) is h

in_slots : (P : PatternText → Type 0) (e : PatternElements) → ((k : ℕ) → k < 8 → IfSome (slice_index_or (slots e) k None) P) → (p : PatternText) →
    HasPattern e p → P p
in_slots P e h p (inl is) = of_some P e.explicit_zero p (h 0 (omega arith)) is
in_slots P e h p (inr (inl is)) = of_some P e.explicit_one p (h 1 (omega arith)) is
in_slots P e h p (inr (inr (inl is))) = of_some P e.zero p (h 2 (omega arith)) is
in_slots P e h p (inr (inr (inr (inl is)))) = of_some P e.one p (h 3 (omega arith)) is
in_slots P e h p (inr (inr (inr (inr (inl is))))) = of_some P e.two p (h 4 (omega arith)) is
in_slots P e h p (inr (inr (inr (inr (inr (inl is)))))) = of_some P e.few p (h 5 (omega arith)) is
in_slots P e h p (inr (inr (inr (inr (inr (inr (inl is))))))) = of_some P e.many p (h 6 (omega arith)) is
in_slots P e h p (inr (inr (inr (inr (inr (inr (inr is))))))) = of_some P (Some e.other) p (h 7 (omega arith)) (ap Some is)

slot_of : (P : PatternText → Type 0) (e : PatternElements) (k : ℕ) → k < 8 → ((p : PatternText) → HasPattern e p → P p) →
    IfSome (slice_index_or (slots e) k None) P
slot_of P e zero l h = if_some P e.explicit_zero (λ p is. h p (inl is))
slot_of P e (suc zero) l h = if_some P e.explicit_one (λ p is. h p (inr (inl is)))
slot_of P e (suc (suc zero)) l h = if_some P e.zero (λ p is. h p (inr (inr (inl is))))
slot_of P e (suc (suc (suc zero))) l h = if_some P e.one (λ p is. h p (inr (inr (inr (inl is)))))
slot_of P e (suc (suc (suc (suc zero)))) l h = if_some P e.two (λ p is. h p (inr (inr (inr (inr (inl is))))))
slot_of P e (suc (suc (suc (suc (suc zero))))) l h = if_some P e.few (λ p is. h p (inr (inr (inr (inr (inr (inl is)))))))
slot_of P e (suc (suc (suc (suc (suc (suc zero)))))) l h = if_some P e.many (λ p is. h p (inr (inr (inr (inr (inr (inr (inl is))))))))
slot_of P e (suc (suc (suc (suc (suc (suc (suc zero))))))) l h = h e.other (inr (inr (inr (inr (inr (inr (inr refl)))))))
slot_of P e (suc (suc (suc (suc (suc (suc (suc (suc k)))))))) l h = absurd (omega arith)

-- a property of exponents and patterns
module _ (P : ℕ → PatternText → Type 0) where
  -- of the pattern in a slot of an entry
  abbrev pub HoldsAtSlot : Option TableEntry → ℕ → Type 0
  HoldsAtSlot o k = IfSome o (λ e. IfSome (slice_index_or (slots e.elements) k None) (P e.exponent))

  pub each_slot : (o : Option TableEntry) → ((k : ℕ) → k < 8 → HoldsAtSlot o k) → IfSome o (λ e. IsTrue true ↔ HoldsOfEntry P e)
  each_slot None h = tt
  each_slot (Some e) h = (λ t. in_slots (P e.exponent) e.elements h, λ all. refl)

  pub slot_failed : (o : Option TableEntry) (k : ℕ) (b : Bool) → k < 8 → b ≡ false →
      IfSome o (λ e. IsTrue b ↔ IfSome (slice_index_or (slots e.elements) k None) (P e.exponent))
      → IfSome o (λ e. IsTrue false ↔ HoldsOfEntry P e)
  slot_failed None k b l f h = tt
  slot_failed (Some e) k b l f h = (λ t. cc, λ all. let passed = h.1 (slot_of (P e.exponent) e.elements k l all) in cc)

  pub slot_passed : (o : Option TableEntry) (k : ℕ) (b : Bool) → b ≡ true →
      IfSome o (λ e. IsTrue b ↔ IfSome (slice_index_or (slots e.elements) k None) (P e.exponent)) → HoldsAtSlot o k
  slot_passed None k b t h = tt
  slot_passed (Some e) k b t h = h.0 t

  -- of each entry and of the place alone
  pub throughout : (table : List TableEntry) → P 0 placeholder_alone → ((k : ℕ) → k < length table → IfSome (slice_get table k) (HoldsOfEntry P)) →
      HoldsThroughout P table
  throughout table alone each None p is = subst (P 0) (sym is) alone
  throughout table alone each (Some e) p ((k, within, is), has) =
      let found : slice_get table k ≡ Some e = slice_get_read table (length table) k e refl within (sym is) in
      let holds : HoldsOfEntry P e = subst (λ (o : Option TableEntry). IfSome o (HoldsOfEntry P)) found (each k within) in
      holds p has

  entry_of : (table : List TableEntry) (k : ℕ) (o : Option TableEntry) → slice_get table k ≡ o → HoldsThroughout P table → IfSome o (HoldsOfEntry P)
  entry_of table k None is h = tt
  entry_of table k (Some e) is h = λ p has. h (Some e) p ((k, slice_get_within table k e is, get_or_from_slice_get table k e e is), has)

  -- where one entry fails the test, the table does
  pub entry_failed : (table : List TableEntry) (k : ℕ) (b : Bool) → k < length table → b ≡ false →
      IfSome (slice_get table k) (λ e. IsTrue b ↔ HoldsOfEntry P e) → HoldsThroughout P table → ⊥
  entry_failed table k b within f is h = go (slice_get table k) (slice_get-get_or table k (first table within) within) is
      (entry_of table k (slice_get table k) refl h)
    where
      first : (t : List TableEntry) → k < length t → TableEntry
      first (e ∷ es) l = e
      first [] l = absurd (omega arith)

      go : {e : TableEntry} (o : Option TableEntry) → o ≡ Some e → IfSome o (λ e. IsTrue b ↔ HoldsOfEntry P e) → IfSome o (HoldsOfEntry P) → ⊥
      go None is h all = cc
      go (Some e) is h all = let passed = h.1 all in cc

  pub entry_passed : (o : Option TableEntry) (b : Bool) → b ≡ true → IfSome o (λ e. IsTrue b ↔ HoldsOfEntry P e) → IfSome o (HoldsOfEntry P)
  entry_passed None b t h = tt
  entry_passed (Some e) b t h = h.0 t

-- readability in its parts
pub readable_table_of : (texts : SymbolTexts) (digits : List ℕ) (table : List TableEntry)
    → HoldsThroughout (λ m p. HasPlaceholderAndNoDigit digits p) table →
    HoldsThroughout (TellsNumbers texts table) table → IsReadableTable texts digits table
readable_table_of texts digits table has_placeholder distinct = record {
  has_placeholder = λ by p h. (has_placeholder by p h).has_placeholder;
  sides_free = λ by p h. (has_placeholder by p h).sides_free;
  distinct = λ s t by to p q h i e. distinct by p h s to q i t e;
}

-- in a readable table each pattern has a place and no digit
pub has_placeholder_throughout : (texts : SymbolTexts) (digits : List ℕ) (table : List TableEntry) → IsReadableTable texts digits table →
    HoldsThroughout (λ m p. HasPlaceholderAndNoDigit digits p) table
has_placeholder_throughout texts digits table h = λ by p is. record { has_placeholder = h.has_placeholder by p is; sides_free = h.sides_free by p is }

-- a readable table determines the numbers in each of its patterns
pub distinct_throughout : (texts : SymbolTexts) (digits : List ℕ) (table : List TableEntry) → IsReadableTable texts digits table →
    HoldsThroughout (TellsNumbers texts table) table
distinct_throughout texts digits table h = λ by p is s to q i t e. h.distinct s t by to p q is i e

-- what holds of all three signs
pub each_sign : (P : Sign → Type 0) → P NoSign → P Negative → P Positive → (s : Sign) → P s
each_sign P n m p NoSign = n
each_sign P n m p Negative = m
each_sign P n m p Positive = p

-- by what stands on a pattern's two sides
pub distinct_of : (texts : SymbolTexts) (table : List TableEntry) (s : Sign) (m : ℕ) (p : PatternText) (a : Surroundings) → a ≡ sides p →
    IsDistinctThroughout texts table s m a → IsDistinctThroughout texts table s m (sides p)
distinct_of texts table s m p a is h = let T : Surroundings → Type 0 = IsDistinctThroughout texts table s m in subst T is h

-- a pattern that determines its numbers differs from every other by what stands around its place
pub distinct_by_sides : (texts : SymbolTexts) (table : List TableEntry) (s : Sign) (m : ℕ) (p : PatternText) (a : Surroundings) → a ≡ sides p →
    TellsNumbers texts table m p → IsDistinctThroughout texts table s m a
distinct_by_sides texts table s m p a is h = let T : Surroundings → Type 0 = IsDistinctThroughout texts table s m in subst T (sym is) (h s)

-- that two patterns are distinguished is said of what stands around their places
pub distinct_from_of : (texts : SymbolTexts) (s : Sign) (m : ℕ) (a : Surroundings) (n : ℕ) (q : PatternText) (b : Surroundings) (r : Bool) → b ≡ sides q
    →
    (IsTrue r ↔ IsDistinctFrom texts s m a n b) → IsTrue r ↔ IsDistinctFrom texts s m a n (sides q)
distinct_from_of texts s m a n q b r is h = let T : Surroundings → Type 0 = λ x. IsTrue r ↔ IsDistinctFrom texts s m a n x in subst T is h

-- what is determined with symbols is determined with equal symbols
pub distinct_with : (texts given : SymbolTexts) (table : List TableEntry) → given ≡ texts → HoldsThroughout (TellsNumbers given table) table →
    HoldsThroughout (TellsNumbers texts table) table
distinct_with texts given table is h = let T : SymbolTexts → Type 0 = λ x. HoldsThroughout (TellsNumbers x table) table in subst T is h

-- by a number that was made with another sign
pub distinct_as : (texts : SymbolTexts) (first made meant : Number) (r : Bool) → made ≡ meant
    → (IsTrue r ↔ AreDistinct texts first.sign first.exponent (surroundings_of first.sides) made.sign made.exponent (surroundings_of made.sides))
    → IsTrue r ↔ AreDistinct texts first.sign first.exponent (surroundings_of first.sides) meant.sign meant.exponent (surroundings_of meant.sides)
distinct_as texts first made meant r is h =
    let T : Number → Type 0 = λ x. IsTrue r ↔ AreDistinct texts first.sign first.exponent (surroundings_of first.sides) x.sign x.exponent
    (surroundings_of x.sides) in subst T is h

-- what is determined of a number is determined of an equal number
pub distinct_throughout_as : (texts : SymbolTexts) (table : List TableEntry) (made meant : Number) (r : Bool) → made ≡ meant
    → (IsTrue r ↔ IsDistinctThroughout texts table made.sign made.exponent (surroundings_of made.sides))
    → IsTrue r ↔ IsDistinctThroughout texts table meant.sign meant.exponent (surroundings_of meant.sides)
distinct_throughout_as texts table made meant r is h =
    let T : Number → Type 0 = λ x. IsTrue r ↔ IsDistinctThroughout texts table x.sign x.exponent (surroundings_of x.sides) in subst T is h
