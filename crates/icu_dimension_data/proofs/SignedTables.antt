-- The table of a sign: the map of its entries, and how it is answered or rejected.
use Rattle.std.proofs.Common.{◌≡◌, ◌<◌, ◌+◌, ℕ, List, [], ◌∷◌, ◌++◌, length, get_or, drop, drop-cons, add-one, append_assoc}
use Rattle.std.proofs.Common.{◌∙◌, Option, Some, None, Result, Ok, Err, refl, sym, ap, inr, subst, arith, pos}
use Rattle.std.proofs.Common.{Bool, true, false, ◌&&◌, ◌==◌, map, if◌then◌else◌}
use Rattle.std.proofs.lemmas.Bool.{and_parts, eqb-true}
use Rattle.std.proofs.lemmas.Bool.Decides.{nat_tests}
use Rattle.std.proofs.lemmas.List.{map-append}
use Rattle.std.specs.Option.{MatchOption}
use Rattle.std.specs.Result.{IsErrOf, IsOkUnless}
use Rattle.icu_decimal_data.specs.CompactFaults.{fault_of}
use Rattle.icu_decimal_data.specs.CompactTable.{PatternElements, TableEntry, exponent_for}
use Rattle.icu_decimal_data.specs.Kept.{as_table, kept}
use Rattle.icu_decimal_data.specs.declared.error.CompactError.{CompactError}
use Rattle.icu_decimal_data.specs.declared.error.CompactError.TheVariants.{ExponentsFall, ExponentAboveType, TooManyZeros, TooLarge, OutOfMemory}
use Rattle.icu_dimension_data.specs.SignedTables.{HasExponents, compact_refusal, entry_for, has_exponents, repeated_refusal, table_for}
use Rattle.icu_dimension_data.specs.SignedTables.{table_of, table_or_refused, with_exponents}
use Rattle.icu_dimension_data.specs.Resolved.{Texts}
use Rattle.fixed_decimal.specs.Size.{place}
use Rattle.fixed_decimal.specs.declared.signs.Sign.{Sign}
use Rattle.fixed_decimal.specs.declared.signs.Sign.TheVariants.{None as NoSign, Negative, Positive}
use Rattle.icu_dimension_data.specs.declared.compact_rows.CompactRow.{CompactRow}
use Rattle.icu_provider.specs.Answer.{Answers, Refusal}
use Rattle.icu_provider.specs.declared.error.DataError.{DataError}
use Rattle.icu_dimension_data.proofs.RisingRows.{Pairs, given_entry}

-- the rows from an index on
pub rows_from : (rows : List CompactRow) (i : ℕ) (x : CompactRow) → x ≡ get_or rows i x → i < length rows → drop i rows ≡ x ∷ drop (i + 1) rows
rows_from rows i x e lt = drop-cons rows i x lt ∙ rw (← e, add-one) refl

-- one more entry of a map stands behind the others
pub one_more : (es : Pairs) (k : ℕ) (v : ℕ × PatternElements) (left total : List TableEntry) → as_table es ++ (given_entry (k, v) ∷ left) ≡ total
    → as_table (es ++ (k, v) ∷ []) ++ left ≡ total
one_more es k v left total h = rw (map-append given_entry es ((k, v) ∷ []), append_assoc) h

module _ (rows : List CompactRow) (entries : List TableEntry) where
  made_by : (table : List TableEntry) (f : Option CompactError)
      → MatchOption f (IsOkUnless {T = List TableEntry} (Ok table) OutOfMemory) (λ fault. IsErrOf {T = List TableEntry} (Ok table) fault)
      → table ≡ kept None entries → table_or_refused rows entries f ≡ with_exponents table rows
  made_by table None refused is = ap (λ t. with_exponents t rows) (sym is)
  made_by table (Some f) refused is = absurd cc

  -- a table that is made is the answer, if it has the exponents of the rows
  pub table_made : (table : List TableEntry)
      → MatchOption (fault_of None entries) (IsOkUnless {T = List TableEntry} (Ok table) OutOfMemory)
      (λ fault. IsErrOf {T = List TableEntry} (Ok table) fault)
      → table ≡ kept None entries → table_or_refused rows entries (fault_of None entries) ≡ with_exponents table rows
  table_made table refused is = made_by table (fault_of None entries) refused is

  refused_by : (fault : CompactError) (f : Option CompactError)
      → MatchOption f (IsOkUnless {T = List TableEntry} (Err fault) OutOfMemory) (λ g. IsErrOf {T = List TableEntry} (Err fault) g)
      → (fault ≡ OutOfMemory → ⊥) → table_or_refused rows entries f ≡ Err (compact_refusal fault)
  refused_by fault None refused other = let same : fault ≡ OutOfMemory = cc in absurd (other same)
  refused_by fault (Some f) refused other = let same : f ≡ fault = cc in rw same refl

  -- and one that isn't is rejected as its fault says
  pub table_refused : (fault : CompactError) (e : DataError) → e.kind ≡ (compact_refusal fault).kind → e.context.now ≡ (compact_refusal fault).context
      → MatchOption (fault_of None entries) (IsOkUnless {T = List TableEntry} (Err fault) OutOfMemory) (λ g. IsErrOf {T = List TableEntry} (Err fault) g)
      → Answers {X = List TableEntry} (Err e) (table_or_refused rows entries (fault_of None entries))
  table_refused ExponentsFall e kind context refused =
      rw (kind, context) (refused_by ExponentsFall (fault_of None entries) refused (λ same. absurd cc))
  table_refused ExponentAboveType e kind context refused =
      rw (kind, context) (refused_by ExponentAboveType (fault_of None entries) refused (λ same. absurd cc))
  table_refused TooManyZeros e kind context refused =
      rw (kind, context) (refused_by TooManyZeros (fault_of None entries) refused (λ same. absurd cc))
  table_refused TooLarge e kind context refused =
      rw (kind, context) (refused_by TooLarge (fault_of None entries) refused (λ same. absurd cc))
  table_refused OutOfMemory e kind context refused = rw (kind, context) (inr refl)

-- ---- exponents

module _ (table : List TableEntry) (rows rest : List CompactRow) (row : CompactRow) (left : List CompactRow) (from : rest ≡ row ∷ left) where
  -- a row whose exponent the table has leaves the rest to decide
  pub exponents_go_on : exponent_for table (place (pos row.log10_type)) ≡ row.exponent → has_exponents table rest ≡ has_exponents table rows →
      has_exponents table left ≡ has_exponents table rows
  exponents_go_on same so_far =
      let test : (exponent_for table (place (pos row.log10_type)) == row.exponent) ≡ true = grind (arith, nat_tests, same) in
      let one : has_exponents table (row ∷ left) ≡ has_exponents table left = ap (λ b. b && has_exponents table left) test in
      sym one ∙ ap (has_exponents table) (sym from) ∙ so_far

  -- another one decides
  pub exponents_differ : (exponent_for table (place (pos row.log10_type)) ≡ row.exponent → ⊥) →
      has_exponents table rest ≡ has_exponents table rows →
      false ≡ has_exponents table rows
  exponents_differ other so_far =
      let test : (exponent_for table (place (pos row.log10_type)) == row.exponent) ≡ false = grind (arith, nat_tests, other) in
      let one : has_exponents table (row ∷ left) ≡ false = ap (λ b. b && has_exponents table left) test in
      sym one ∙ ap (has_exponents table) (sym from) ∙ so_far

-- without a row left the table has all exponents
pub exponents_end : (table : List TableEntry) (rows rest : List CompactRow) → rest ≡ [] → has_exponents table rest ≡ has_exponents table rows →
    true ≡ has_exponents table rows
exponents_end table rows rest none so_far = sym (ap (has_exponents table) none) ∙ so_far

-- what is tested holds
exponents_held : (table : List TableEntry) (rows : List CompactRow) → has_exponents table rows ≡ true → HasExponents table rows
exponents_held table [] h = tt
exponents_held table (row ∷ rows) h = let parts = and_parts _ _ h in (eqb-true _ _ parts.0, exponents_held table rows parts.1)

abbrev told_apart : Result (List TableEntry) Refusal
told_apart = Err repeated_refusal

with_held : (b : Bool) (made table : List TableEntry) (rows : List CompactRow) → has_exponents made rows ≡ b →
    (if b then Ok made else told_apart) ≡ Ok table → HasExponents table rows
with_held true made table rows test is =
    let same : made ≡ table = cc in subst (λ (t : List TableEntry). HasExponents t rows) same (exponents_held made rows test)
with_held false made table rows test is = absurd cc

answer_held : (fault : Option CompactError) (entries table : List TableEntry) (rows : List CompactRow) → table_or_refused rows entries fault ≡ Ok table →
    HasExponents table rows
answer_held None entries table rows is = with_held (has_exponents (kept None entries) rows) (kept None entries) table rows refl is
answer_held (Some fault) entries table rows is = absurd cc

table_has_exponents : (digits : List ℕ) (texts : Texts) (rows : List CompactRow) (sign : Sign) (table : List TableEntry) →
    table_for digits texts rows sign ≡ Ok table → HasExponents table rows
unfolding table_for
table_has_exponents digits texts rows sign table is =
    answer_held (fault_of None (map (entry_for digits texts sign) rows)) (map (entry_for digits texts sign) rows) table rows is

-- the table of each sign has the exponents of the rows
pub tables_have_exponents : (digits : List ℕ) (texts : Texts) (rows : List CompactRow) (none minus plus : List TableEntry) →
    table_for digits texts rows NoSign ≡ Ok none → table_for digits texts rows Negative ≡ Ok minus →
    table_for digits texts rows Positive ≡ Ok plus →
    (s : Sign) → HasExponents (table_of (record { none = none; minus = minus; plus = plus }) s) rows
tables_have_exponents digits texts rows none minus plus a b c NoSign = table_has_exponents digits texts rows NoSign none a
tables_have_exponents digits texts rows none minus plus a b c Negative = table_has_exponents digits texts rows Negative minus b
tables_have_exponents digits texts rows none minus plus a b c Positive = table_has_exponents digits texts rows Positive plus c
