-- Rows of compact patterns of money, one after another, and their types.
use Rattle.std.proofs.Common.{◌≡◌, ℕ, List, [], ◌∷◌, ◌++◌, Option, Some, Result, Ok, Err, refl, sym, ap, ◌∙◌}
use Rattle.std.proofs.lemmas.List.{append-nil}
use Rattle.icu_dimension_data.specs.Patterns.{PatternText}
use Rattle.icu_dimension_tables.specs.ByCategory.{elements_read}
use Rattle.icu_dimension_data.specs.CompactRows.{RowsRise}
use Rattle.icu_dimension_tables.specs.CurrencyCompact.{compact_row_of, compact_rows_of, exponent_of}
use Rattle.icu_dimension_tables.specs.MoneyPattern.{money_pattern_of}
use Rattle.icu_dimension_data.specs.declared.compact_rows.CompactRow.{CompactRow}
use Rattle.icu_plurals.specs.Elements.{Elements}
use Rattle.icu_table_entries.proofs.Lists.{with_front, regroup, failed}
use Rattle.icu_table_entries.specs.Reading.{◌>>=◌, Fails}
use Rattle.icu_table_entries.specs.declared.error.Position.{Position}
use Rattle.icu_table_entries.specs.declared.error.TableError.{TableError}
use Rattle.icu_tables.specs.Compact.{Rise}
use Rattle.icu_tables.specs.declared.compact.ListedEntry.{ListedEntry}

module _ (position : Position) (front : List CompactRow) (before : ℕ) (e : ListedEntry) (es : List ListedEntry) (total : Result (List CompactRow) TableError)
  where
    -- one more row is read, and the rest goes on
    pub rows_go_on : (row : CompactRow) → compact_row_of position before e ≡ Ok row → with_front front (compact_rows_of position before (e ∷ es))
        ≡ total
        → with_front (front ++ row ∷ []) (compact_rows_of position row.exponent es) ≡ total
    unfolding compact_rows_of
    rows_go_on row h so_far =
        let one : with_front front (compact_rows_of position before (e ∷ es))
        ≡ with_front (front ++ row ∷ []) (compact_rows_of position row.exponent es) =
        rw h (regroup front row (compact_rows_of position row.exponent es)) in
        sym one ∙ so_far

    -- a row that is rejected rejects all
    pub rows_fail : (fault : TableError) → Fails fault (compact_row_of position before e) → with_front front (compact_rows_of position before (e ∷ es))
        ≡ total
        → Fails fault total
    unfolding compact_rows_of
    rows_fail fault h so_far =
        rw (← so_far) (failed fault _ (λ xs. Ok (front ++ xs)) (failed fault (compact_row_of position before e)
        (λ row. compact_rows_of position row.exponent es >>= λ rows. Ok (row ∷ rows)) h))

-- without entries left all rows are read
pub rows_end : (position : Position) (front : List CompactRow) (before : ℕ) (total : Result (List CompactRow) TableError)
    → with_front front (compact_rows_of position before []) ≡ total → total ≡ Ok front
unfolding compact_rows_of
rows_end position front before total so_far = sym so_far ∙ ap Ok (append-nil front)

typed : (t : ℕ) (x : Result ℕ TableError) (p : Result (Elements PatternText) TableError) (row : CompactRow)
    → (x >>= λ n. p >>= λ q. Ok (record { log10_type = t; exponent = n; patterns = q })) ≡ Ok row → row.log10_type ≡ t
typed t (Ok n) (Ok q) row h = cc
typed t (Ok n) (Err e) row h = absurd cc
typed t (Err e) p row h = absurd cc

-- a row has the type that is given
row_type : (position : Position) (before : ℕ) (e : ListedEntry) (row : CompactRow) → compact_row_of position before e ≡ Ok row → row.log10_type
    ≡ e.log10_type
unfolding compact_row_of
row_type position before e row h =
    typed e.log10_type (exponent_of position before e.log10_type e.exponent) (elements_read money_pattern_of position e.texts) row h

-- rows that are read are those of a first one and of the rest
abbrev AreReadSo : Result CompactRow TableError → (CompactRow → Result (List CompactRow) TableError) → List CompactRow → Type 0
AreReadSo first rest rows = (row : CompactRow) × (first ≡ Ok row) × ((behind : List CompactRow) × (rest row ≡ Ok behind) × (rows ≡ row ∷ behind))

rest_read : (row : CompactRow) (rest : Result (List CompactRow) TableError) (rows : List CompactRow) → (rest >>= λ xs. Ok (row ∷ xs)) ≡ Ok rows
    → (behind : List CompactRow) × (rest ≡ Ok behind) × (rows ≡ row ∷ behind)
rest_read row (Ok xs) rows h = (xs, refl, cc)
rest_read row (Err e) rows h = absurd cc

read_so : (first : Result CompactRow TableError) (rest : CompactRow → Result (List CompactRow) TableError) (rows : List CompactRow)
    → (first >>= λ row. rest row >>= λ xs. Ok (row ∷ xs)) ≡ Ok rows → AreReadSo first rest rows
read_so (Ok row) rest rows h = (row, refl, rest_read row (rest row) rows h)
read_so (Err e) rest rows h = absurd cc

-- their types rise, as those that are given do
pub rows_rise : (position : Position) (before : ℕ) (last : Option ℕ) (es : List ListedEntry) (rows : List CompactRow)
    → compact_rows_of position before es ≡ Ok rows → Rise last es → RowsRise last rows
unfolding compact_rows_of
rows_rise position before last [] rows h rise = let none : [] ≡ rows = cc in rw (← none) tt
rows_rise position before last (e ∷ es) rows h rise =
    let s = read_so (compact_row_of position before e) (λ row. compact_rows_of position row.exponent es) rows h in
    let same = row_type position before e s.0 s.1 in
    rw s.2.2 (rw same rise.0, rw same (rows_rise position s.0.exponent (Some e.log10_type) es s.2.0 s.2.1 rise.1))
