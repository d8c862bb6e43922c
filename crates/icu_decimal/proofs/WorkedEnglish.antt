-- English with its short and with its long compact table is readable: instances of the laws of texts.
-- A table is made of rows, each an exponent and the literal behind the number; a number without an entry counts as a row with an empty
-- literal. Such a table is readable where no literal has a digit and no two are alike (`rows_readable`). Both are tests that compute
-- (`are_free`, `are_distinct`), shown by induction on the rows to mean what the relations ask; at a given table `refl` proves them.
-- Without the tests each pair of patterns would be a case. English affixes of a sign stand before the number alone (`nothing_after`).
use Rattle.std.proofs.Common.{◌≡◌, ℕ, zero, suc, ◌<◌, arith, refl, sym, ap, ap₂, append-nil, ◌∙◌, subst, Bool, true, false, ◌==◌, List}
use Rattle.std.proofs.Common.{[], ◌∷◌, ◌++◌, length, map, slice_index_or, Option, Some, None, IsSome, inl, inr, if◌then◌else◌, codes}
use Rattle.std.specs.Str.{chars}
use Rattle.std.proofs.lemmas.Bool.{eq-eqb}
use Rattle.fixed_decimal.specs.declared.signs.Sign.{Sign}
use Rattle.fixed_decimal.specs.declared.signs.Sign.TheVariants.{Negative, Positive, None as NoSign}
use Rattle.icu_plurals.specs.Elements.{only_other}
use Rattle.icu_pattern.specs.Patterns.{PatternText}
use Rattle.icu_decimal_data.specs.CompactTable.{TableEntry, exponent_of}
use Rattle.icu_decimal_symbols.specs.DecimalSymbols.{english_symbols}
use Rattle.icu_decimal_readable.specs.Readable.{Surroundings, affixes, sides, sides_at, surroundings, HasPattern, IsFreeOfDigits, IsPatternBy, IsReadableTable}
use Rattle.icu_decimal.specs.CompactFormat.{CompactFormat}
use Rattle.icu_decimal.specs.Readable.{IsReadableCompact}
use Rattle.icu_decimal.proofs.WorkedReadable.{texts, digits, has_none_of, neither, none_of, sign_distinct, english_readable}

-- an exponent, and the literal that follows a number: the one pattern of an entry whose type is its exponent
pub record Row : Type 0 where
  pub exponent : ℕ
  pub literal : List ℕ

-- the pattern of a row
abbrev pub row_pattern : Row → PatternText
row_pattern r = record { placeholder = Some 0; literal = r.literal }

-- the entry of a row
abbrev pub row_entry : Row → TableEntry
row_entry r = record { log10_type = r.exponent; exponent = r.exponent; elements = only_other (row_pattern r) }

-- numbers without an entry stand in the pattern of this row
abbrev alone : Row
alone = record { exponent = 0; literal = [] }

-- the characters behind a number
abbrev tail : Row → List ℕ
tail r = chars r.literal

-- the row stands at this place of the list
abbrev IsRowAt : List Row → ℕ → Row → Type 0
IsRowAt [] j r = ⊥
IsRowAt (x ∷ rows) zero r = x ≡ r
IsRowAt (x ∷ rows) (suc j) r = IsRowAt rows j r

-- tests that compute: no literal has a digit, and no two have the same characters
abbrev is_same : List ℕ → List ℕ → Bool
is_same [] [] = true
is_same [] (d ∷ ds) = false
is_same (c ∷ cs) [] = false
is_same (c ∷ cs) (d ∷ ds) = if c == d then is_same cs ds else false

abbrev is_tail_of : List Row → List ℕ → Bool
is_tail_of [] t = false
is_tail_of (r ∷ rows) t = if is_same (tail r) t then true else is_tail_of rows t

abbrev are_distinct : List Row → Bool
are_distinct [] = true
are_distinct (r ∷ rows) = if is_tail_of rows (tail r) then false else are_distinct rows

abbrev are_free : List Row → Bool
are_free [] = true
are_free (r ∷ rows) = if has_none_of digits (tail r) then are_free rows else false

itself : (cs : List ℕ) → is_same cs cs ≡ true
itself [] = refl
itself (c ∷ cs) = rw (eq-eqb c c refl) (itself cs)

both : (b r : Bool) → (if b then r else false) ≡ true → (b ≡ true) × (r ≡ true)
both true r e = (refl, e)
both false r e = cc

is_among : (rows : List Row) (j : ℕ) (r : Row) (t : List ℕ) → IsRowAt rows j r → tail r ≡ t → is_tail_of rows t ≡ true
is_among [] j r t at same = absurd at
is_among (x ∷ rows) zero r t at same = rw (ap tail at ∙ same) (rw (itself t) refl)
is_among (x ∷ rows) (suc j) r t at same =
    elim (is_same (tail x) t) as (λ b. (if b then true else is_tail_of rows t) ≡ true) [ true ↦ refl | false ↦ is_among rows j r t at same ]

distinct : (rows : List Row) (i j : ℕ) (r s : Row) → are_distinct rows ≡ true → IsRowAt rows i r → IsRowAt rows j s → tail r ≡ tail s → r ≡ s
distinct [] i j r s e at on same = absurd at
distinct (x ∷ rows) zero zero r s e at on same = sym at ∙ on
distinct (x ∷ rows) zero (suc j) r s e at on same =
    let found = is_among rows j s (tail x) on (sym same ∙ sym (ap tail at)) in
    let missed = (neither (is_tail_of rows (tail x)) (are_distinct rows) e).0 in
    cc
distinct (x ∷ rows) (suc i) zero r s e at on same =
    let found = is_among rows i r (tail x) at (same ∙ sym (ap tail on)) in
    let missed = (neither (is_tail_of rows (tail x)) (are_distinct rows) e).0 in
    cc
distinct (x ∷ rows) (suc i) (suc j) r s e at on same = distinct rows i j r s (neither (is_tail_of rows (tail x)) (are_distinct rows) e).1 at on same

free : (rows : List Row) (j : ℕ) (r : Row) → are_free rows ≡ true → IsRowAt rows j r → has_none_of digits (tail r) ≡ true
free [] j r e at = absurd at
free (x ∷ rows) zero r e at = subst (λ (y : Row). has_none_of digits (tail y) ≡ true) at (both (has_none_of digits (tail x)) (are_free rows) e).0
free (x ∷ rows) (suc j) r e at = free rows j r (both (has_none_of digits (tail x)) (are_free rows) e).1 at

-- a pattern of an entry that is a row's is the row's
only_pattern : (r : Row) (p : PatternText) → HasPattern (row_entry r).elements p → p ≡ row_pattern r
only_pattern r p (inl h) = cc
only_pattern r p (inr (inl h)) = cc
only_pattern r p (inr (inr (inl h))) = cc
only_pattern r p (inr (inr (inr (inl h)))) = cc
only_pattern r p (inr (inr (inr (inr (inl h))))) = cc
only_pattern r p (inr (inr (inr (inr (inr (inl h)))))) = cc
only_pattern r p (inr (inr (inr (inr (inr (inr (inl h))))))) = cc
only_pattern r p (inr (inr (inr (inr (inr (inr (inr h))))))) = sym h

row_at : (rows : List Row) (e : TableEntry) (j : ℕ) → j < length (map row_entry rows) → slice_index_or (map row_entry rows) j e ≡ e →
    (r : Row) × IsRowAt rows j r × (row_entry r ≡ e)
row_at [] e j within is = absurd (omega arith)
row_at (x ∷ rows) e zero within is = (x, refl, is)
row_at (x ∷ rows) e (suc j) within is = row_at rows e j (omega arith) is

-- each pattern that a number may stand in is that of a row, or stands alone
picked : (rows : List Row) (by : Option TableEntry) (p : PatternText) → IsPatternBy (map row_entry rows) by p
    → (j : ℕ) × (r : Row) × IsRowAt (alone ∷ rows) j r × (exponent_of by ≡ r.exponent) × (p ≡ row_pattern r)
picked rows None p h = (0, alone, refl, refl, h)
picked rows (Some e) p ((j, within, is), has) =
    let found = row_at rows e j within is in (
      suc j,
      found.0,
      found.1,
      sym (ap (λ (x : TableEntry). x.exponent) found.2),
      only_pattern found.0 p (subst (λ (x : TableEntry). HasPattern x.elements p) (sym found.2) has),
    )

sides_of : (l : List ℕ) → sides_at (Some 0) l ≡ record { before = []; after = chars l }
unfolding chars
sides_of [] = refl
sides_of (c ∷ l) = refl

nothing_after : (s : Sign) → (affixes texts s).after ≡ []
unfolding chars
nothing_after NoSign = refl
nothing_after Negative = refl
nothing_after Positive = refl

-- what stands around a number in the pattern of a row
around : (s : Sign) (r : Row) → surroundings texts s (row_pattern r) ≡ record { before = (affixes texts s).before; after = tail r }
around s r =
    let of : List ℕ → List ℕ → Surroundings = λ x y. record { before = x; after = y } in
    ap₂ of
    (ap (λ (a : Surroundings). (affixes texts s).before ++ a.before) (sides_of r.literal) ∙ append-nil (affixes texts s).before)
    (ap₂ (λ (a : Surroundings) (l : List ℕ). a.after ++ l) (sides_of r.literal) (nothing_after s) ∙ append-nil (tail r))

-- a table of rows is readable where no literal has a digit and no two, nor one and none, have the same characters
rows_readable : (rows : List Row) → are_free (alone ∷ rows) ≡ true → are_distinct (alone ∷ rows) ≡ true →
    IsReadableTable texts digits (map row_entry rows)
rows_readable rows frees tells = record {
  has_placeholder = λ by p h. let k = picked rows by p h in subst (λ (q : PatternText). IsSome q.placeholder) (sym k.4) refl;
  sides_free = λ by p h.
      let k = picked rows by p h in
      let behind = none_of digits (tail k.1) (free (alone ∷ rows) k.0 k.1 frees k.2) in
      let is_free : IsFreeOfDigits digits (record { before = []; after = tail k.1 }) = record { before_free = none_of digits [] refl; after_free = behind } in
      subst (λ (q : PatternText). IsFreeOfDigits digits (sides q)) (sym k.4)
      (subst (λ (a : Surroundings). IsFreeOfDigits digits a) (sym (sides_of k.1.literal)) is_free);
  distinct = λ s t by to p q h i e.
      let k = picked rows by p h in
      let l = picked rows to q i in
      let same = sym (around s k.1) ∙ sym (ap (surroundings texts s) k.4) ∙ e ∙ ap (surroundings texts t) l.4 ∙ around t l.1 in
      let before : (affixes texts s).before ≡ (affixes texts t).before = ap (λ (a : Surroundings). a.before) same in
      let of : List ℕ → List ℕ → Surroundings = λ x y. record { before = x; after = y } in
      let rows_same = distinct (alone ∷ rows) k.0 l.0 k.1 l.1 tells k.2 l.2 (ap (λ (a : Surroundings). a.after) same) in
      (sign_distinct s t (ap₂ of before (nothing_after s ∙ sym (nothing_after t))), k.3 ∙ ap (λ (r : Row). r.exponent) rows_same ∙ sym l.3);
}

-- the English formatter with the table of these rows
abbrev pub with_table : List Row → CompactFormat
with_table rows = record {
  decimal = record { symbols = english_symbols; digits = digits; options = record { grouping_strategy = None } };
  rules = [];
  table = map row_entry rows;
}

-- `15K`, `1M`
abbrev pub short_rows : List Row
short_rows =
    record { exponent = 3; literal = codes "K" } ∷ record { exponent = 6; literal = codes "M" }
    ∷ record { exponent = 9; literal = codes "B" } ∷ record { exponent = 12; literal = codes "T" } ∷ []

-- `15 thousand`, `1 million`
abbrev long_rows : List Row
long_rows =
    record { exponent = 3; literal = codes " thousand" } ∷ record { exponent = 6; literal = codes " million" }
    ∷ record { exponent = 9; literal = codes " billion" } ∷ record { exponent = 12; literal = codes " trillion" } ∷ []

-- English with its short patterns is readable
pub english_short_readable : IsReadableCompact (with_table short_rows)
unfolding chars
english_short_readable = record { plain_readable = english_readable; table_readable = rows_readable short_rows refl refl }

-- English with its long patterns is readable
pub english_long_readable : IsReadableCompact (with_table long_rows)
unfolding chars
english_long_readable = record { plain_readable = english_readable; table_readable = rows_readable long_rows refl refl }
