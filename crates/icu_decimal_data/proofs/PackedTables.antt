-- Tables: what is read is written so, and what is written is read.
-- The inductions are in RecordLaws; here the head of four bytes is put before the records. Read: `table_read` takes `table_step` apart, test
-- by test, with `unless_ok` and `bind_ok` of TableBasics, and `table_taken` puts head, records and pool together as the bytes. Written:
-- `table_again` puts the table's pool, count and records into `table_step` one after another, each by an equation of its own (`pool_is`,
-- `count_is`, `rest_is`), and `table_steps` puts in the answers of the tests. The last part is what `CompactView::parse` cites.
use Rattle.std.proofs.Common.{◌≡◌, ℕ, zero, suc, ◌+◌, ◌-◌, ◌*◌, ◌/◌, ◌%◌, ◌<◌, ◌≤◌, ◌^◌, Bool, true, false, not, min}
use Rattle.std.proofs.Common.{IsTrue, IsOk, List, [], ◌∷◌, ◌++◌, length, take, drop, slice_index, Option, Some, None, Result, Ok, Err, eqb, ltb, refl}
use Rattle.std.proofs.Common.{sym, ap, ◌∙◌, arith, subst}
use Rattle.std.proofs.lemmas.Bool.{eqb-true, ltb-false, le-ltb, eq-eqb}
use Rattle.std.proofs.lemmas.List.{length-append, length-drop, drop_at, drop-drop, take_all, take-append-drop, append-nil}
use Rattle.std.specs.Prelude.{IfSome, IsSome}
use Rattle.std.specs.Str.{IsCharBoundary}
use Rattle.icu_pattern.specs.Patterns.{PatternText, PlaceholderFits, placeholder_alone}
use Rattle.icu_decimal_data.specs.PackedTable.{IsBackend}
use Rattle.icu_decimal_data.specs.CompactTable.{TableEntry}
use Rattle.icu_decimal_data.specs.PackedTable.{literals, IsPackable}
use Rattle.icu_decimal_data.specs.TableBytes.{number_bytes, records_bytes, table_bytes}
use Rattle.icu_decimal_data.specs.TableReading.{two_byte_number, entries_in, count_in, pool_start, pool_in, table_in, unless, ◌>>=◌, records_step}
use Rattle.icu_decimal_data.specs.TableReading.{whole_len, table_step}
use Rattle.icu_decimal_data.proofs.TableBasics.{IsBytes, IsBytes-drop, bind_ok, unless_ok, not_false, low_is, high_is, joined_is}
use Rattle.icu_decimal_data.proofs.RecordLaws.{TakenRecords, records_taken, records_again, length-records}

-- that many entries are read
pub length-entries : (pool : List ℕ) (n : ℕ) (bytes : List ℕ) → length (entries_in pool n bytes) ≡ n
length-entries pool zero bytes = refl
length-entries pool (suc n) bytes = omega (arith, length-entries pool n (drop 58 bytes))

-- ---- what is read is written so

front_four : (bytes : List ℕ) (n l : ℕ) → 4 ≤ length bytes → IsBytes bytes → n ≡ two_byte_number bytes 0 → l ≡ two_byte_number bytes 2 →
    number_bytes n ++ (number_bytes l ++ drop 4 bytes) ≡ bytes
front_four [] n l h fits en el = absurd (omega arith)
front_four (a ∷ []) n l h fits en el = absurd (omega arith)
front_four (a ∷ b ∷ []) n l h fits en el = absurd (omega arith)
front_four (a ∷ b ∷ c ∷ []) n l h fits en el = absurd (omega arith)
front_four (a ∷ b ∷ c ∷ d ∷ bytes) n l h fits en el =
    let e0 : n % 256 ≡ a = rw en (low_is a b (fits 0)) in
    let e1 : n / 256 ≡ b = rw en (high_is a b (fits 0)) in
    let e2 : l % 256 ≡ c = rw el (low_is c d (fits 2)) in
    let e3 : l / 256 ≡ d = rw el (high_is c d (fits 2)) in
    cc

number_below : (a b : ℕ) → a < 256 → b < 256 → a + 256 * b < 2 ^ 16
number_below a b h k = omega arith

-- what is known of the bytes of a table that was read
pub record TakenTable (accepts : PatternText → Bool) (bytes : List ℕ) : Type 0 where
  pub long : 4 ≤ length bytes
  pub few : count_in bytes ≤ 256
  pub whole : length bytes ≡ whole_len bytes
  pub records : TakenRecords accepts (pool_in bytes) (pool_start bytes) None (count_in bytes) 0 (drop 4 bytes) (two_byte_number bytes 2)

-- bytes that are passed have their lengths, and records of their pool
pub table_read : (accepts : PatternText → Bool) (bytes : List ℕ) (last : ℕ) → IsBytes bytes → table_step accepts bytes ≡ Ok last →
    TakenTable accepts bytes
unfolding table_step
table_read accepts bytes last fits e =
    let n = count_in bytes in
    let len = two_byte_number bytes 2 in
    let pool = pool_in bytes in
    let a = unless_ok (ltb (length bytes) 4) (length bytes) _ last e in
    let b = unless_ok (ltb 256 n) 0 _ last a.1 in
    let c = unless_ok (not (eqb (length bytes) (whole_len bytes))) (min (length bytes) (whole_len bytes)) _ last b.1 in
    let d = bind_ok (records_step accepts pool (pool_start bytes) n None 4 0 (drop 4 bytes))
    (λ sum. unless (not (eqb sum len)) (pool_start bytes + sum) (Ok sum)) last c.1 in
    let sum = d.0 in
    let f = unless_ok (not (eqb sum len)) (pool_start bytes + sum) (Ok sum) last d.2 in
    let long : 4 ≤ length bytes = ltb-false _ _ a.0 in
    let few : n ≤ 256 = ltb-false _ _ b.0 in
    let whole : length bytes ≡ whole_len bytes = eqb-true _ _ (not_false _ c.0) in
    let all : sum ≡ len = eqb-true _ _ (not_false _ f.0) in
    let t : TakenRecords accepts pool (pool_start bytes) None n 0 (drop 4 bytes) sum =
    records_taken accepts pool (pool_start bytes) n None None 4 0 (drop 4 bytes) sum (omega (arith, length-drop 4 bytes)) (IsBytes-drop 4 bytes fits) tt
    (omega arith) d.1 in
    record {
      long = long;
      few = few;
      whole = whole;
      records =
          subst (λ (s : ℕ). TakenRecords accepts pool (pool_start bytes) None n 0 (drop 4 bytes) s) all t;
    }

-- the table in bytes that are passed can be packed, and is written in these bytes
pub table_taken : (accepts : PatternText → Bool) (bytes : List ℕ) (last : ℕ) → IsBytes bytes → table_step accepts bytes ≡ Ok last →
    IsPackable accepts (table_in bytes) × (table_bytes (table_in bytes) ≡ bytes)
unfolding table_in table_bytes
table_taken accepts bytes last fits e =
    let r = table_read accepts bytes last fits e in
    let n = count_in bytes in
    let len = two_byte_number bytes 2 in
    let pool = pool_in bytes in
    let whole = r.whole in
    let few = r.few in
    let t = r.records in
    let es = entries_in pool n (drop 4 bytes) in
    let count : length es ≡ n = length-entries pool n (drop 4 bytes) in
    let pool_len : length pool ≡ len = length-drop (pool_start bytes) bytes ∙ omega arith in
    let lits : literals es ≡ pool = sym t.in_pool ∙ take_all (len - 0) pool (omega arith) in
    let lits_len : length (literals es) ≡ len = ap length lits ∙ pool_len in
    let rest : drop (58 * n) (drop 4 bytes) ≡ pool = drop-drop (58 * n) 4 bytes in
    let tail : records_bytes 0 es ++ literals es ≡ drop 4 bytes =
    ap (λ (r : List ℕ). r ++ literals es) t.written ∙ ap (λ (r : List ℕ). take (58 * n) (drop 4 bytes) ++ r) (lits ∙ sym rest)
    ∙ take-append-drop (58 * n) (drop 4 bytes) in
    let short : len < 2 ^ 16 = number_below (slice_index bytes 2) (slice_index bytes 3) (fits 2) (fits 3) in (
      record { counted = omega arith; short = omega arith; entries = t.entries },
      ap (λ (r : List ℕ). number_bytes (length es) ++ (number_bytes (length (literals es)) ++ r)) tail
          ∙ front_four bytes (length es) (length (literals es)) r.long fits count lits_len,
    )

-- ---- what is written is read

table_steps : (accepts : PatternText → Bool) (bytes : List ℕ) (sum : ℕ) → ltb (length bytes) 4 ≡ false → ltb 256 (count_in bytes) ≡ false →
    eqb (length bytes) (whole_len bytes) ≡ true
    → records_step accepts (pool_in bytes) (pool_start bytes) (count_in bytes) None 4 0 (drop 4 bytes) ≡ Ok sum →
    eqb sum (two_byte_number bytes 2) ≡ true → table_step accepts bytes ≡ Ok sum
unfolding table_step
table_steps accepts bytes sum a b c d e =
    let len = two_byte_number bytes 2 in
    let later : Result ℕ ℕ → Result ℕ ℕ = λ (r : Result ℕ ℕ). r >>= λ s. unless (not (eqb s len)) (pool_start bytes + s) (Ok s) in
    let rest = later (records_step accepts (pool_in bytes) (pool_start bytes) (count_in bytes) None 4 0 (drop 4 bytes)) in
    ap (λ (x : Bool). unless x (length bytes) (unless (ltb 256 (count_in bytes)) 0
    (unless (not (eqb (length bytes) (whole_len bytes))) (min (length bytes) (whole_len bytes)) rest))) a
    ∙ ap (λ (x : Bool). unless x 0 (unless (not (eqb (length bytes) (whole_len bytes))) (min (length bytes) (whole_len bytes)) rest)) b
    ∙ ap (λ (x : Bool). unless (not x) (min (length bytes) (whole_len bytes)) rest) c
    ∙ ap later d
    ∙ ap (λ (x : Bool). unless (not x) (pool_start bytes + sum) (Ok sum)) e

module _ (accepts : PatternText → Bool) (backend : IsBackend accepts) (t : List TableEntry) (h : IsPackable accepts t) where
  bytes_are : (n l : ℕ) (rest : List ℕ) → (count_in (number_bytes n ++ (number_bytes l ++ rest)) ≡ n)
      × (two_byte_number (number_bytes n ++ (number_bytes l ++ rest)) 2 ≡ l)
  bytes_are n l rest = (joined_is n, joined_is l)

  count_is : count_in (table_bytes t) ≡ length t
  unfolding table_bytes
  count_is = joined_is (length t)

  len_is : two_byte_number (table_bytes t) 2 ≡ length (literals t)
  unfolding table_bytes
  len_is = joined_is (length (literals t))

  length_is : length (table_bytes t) ≡ 4 + 58 * length t + length (literals t)
  unfolding table_bytes
  length_is = omega (arith, length-append (records_bytes 0 t) (literals t), length-records 0 t)

  rest_is : drop 4 (table_bytes t) ≡ records_bytes 0 t ++ literals t
  unfolding table_bytes
  rest_is = refl

  start_is : pool_start (table_bytes t) ≡ 4 + 58 * length t
  start_is = omega (arith, count_is)

  pool_is : pool_in (table_bytes t) ≡ literals t
  pool_is =
      ap (λ (k : ℕ). drop k (table_bytes t)) start_is
      ∙ sym (drop-drop (58 * length t) 4 (table_bytes t))
      ∙ ap (λ (r : List ℕ). drop (58 * length t) r) rest_is
      ∙ drop_at (records_bytes 0 t) (literals t) (58 * length t) (length-records 0 t)

  records_are : (pool_at : ℕ) → (records_step accepts (literals t) pool_at (length t) None 4 0 (records_bytes 0 t ++ literals t)
      ≡ Ok (0 + length (literals t))) × (entries_in (literals t) (length t) (records_bytes 0 t ++ literals t) ≡ t)
  records_are pool_at = records_again accepts (literals t) pool_at t None None 4 0 (literals t) [] backend tt h.entries h.short (omega arith)
      (sym (append-nil (literals t)))

  -- what is written of a table that can be packed is passed, and is that table
  pub table_again : (table_step accepts (table_bytes t) ≡ Ok (0 + length (literals t))) × (table_in (table_bytes t) ≡ t)
  unfolding table_in
  table_again =
      let bytes = table_bytes t in
      let r = records_are (pool_start bytes) in
      let step : records_step accepts (pool_in bytes) (pool_start bytes) (count_in bytes) None 4 0 (drop 4 bytes) ≡ Ok (0 + length (literals t)) =
      ap (λ (p : List ℕ). records_step accepts p (pool_start bytes) (count_in bytes) None 4 0 (drop 4 bytes)) pool_is
      ∙ ap (λ (k : ℕ). records_step accepts (literals t) (pool_start bytes) k None 4 0 (drop 4 bytes)) count_is
      ∙ ap (λ (x : List ℕ). records_step accepts (literals t) (pool_start bytes) (length t) None 4 0 x) rest_is
      ∙ r.0 in (
        table_steps accepts bytes (0 + length (literals t))
            (le-ltb _ _ (omega (arith, length_is)))
            (le-ltb _ _ (omega (arith, count_is, h.counted)))
            (eq-eqb _ _ (omega (arith, length_is, start_is, len_is)))
            step
            (eq-eqb _ _ (omega (arith, len_is))),
        ap (λ (p : List ℕ). entries_in p (count_in bytes) (drop 4 bytes)) pool_is
            ∙ ap (λ (k : ℕ). entries_in (literals t) k (drop 4 bytes)) count_is
            ∙ ap (λ (x : List ℕ). entries_in (literals t) (length t) x) rest_is
            ∙ r.1,
      )

-- ---- what a view needs

-- the laws of a backend say what packing needs
pub backend_is : (accepts : PatternText → Bool) → ((p : PatternText) → IsTrue (accepts p) → PlaceholderFits p) →
    ((p : PatternText) → IsTrue (accepts p) → IsSome p.placeholder → IsTrue (accepts placeholder_alone)) → IsBackend accepts
backend_is accepts fits opens = record { inside = λ p h. go p.placeholder p.literal (fits p h); opened = opens }
  where
    go : (o : Option ℕ) (literal : List ℕ) → IfSome o (λ k. IsCharBoundary literal k) → IfSome o (λ k. k ≤ length literal)
    go None literal h = tt
    go (Some k) literal h = h.0

-- the number of a result that has one
pub ok_value : (r : Result ℕ ℕ) → IsOk r → (n : ℕ) × (r ≡ Ok n)
ok_value (Ok n) h = (n, refl)
ok_value (Err e) h = absurd cc

-- bytes that are passed are written of the table that stands in them, which can be packed
pub is_found : (accepts : PatternText → Bool) (bytes : List ℕ) → IsBytes bytes → IsOk (table_step accepts bytes) →
    IsPackable accepts (table_in bytes) × (bytes ≡ table_bytes (table_in bytes))
is_found accepts bytes fits h =
    let v = ok_value (table_step accepts bytes) h in
    let t = table_taken accepts bytes v.0 fits v.1 in
    (t.0, sym t.1)

-- a table stands in what is written of it
pub is_only : (accepts : PatternText → Bool) (bytes : List ℕ) (t : List TableEntry) → IsBackend accepts → IsPackable accepts t →
    bytes ≡ table_bytes t → table_in bytes ≡ t
is_only accepts bytes t backend h e = ap table_in e ∙ (table_again accepts backend t h).1

-- bytes that are written of a table that can be packed have no damage
pub is_no_fault : (accepts : PatternText → Bool) (bytes : List ℕ) (t : List TableEntry) (byte : ℕ) → IsBackend accepts → IsPackable accepts t →
    bytes ≡ table_bytes t → table_step accepts bytes ≡ Err byte → ⊥
is_no_fault accepts bytes t byte backend h e f = let g : table_step accepts bytes ≡ Ok (0 + length (literals t)) =
    ap (table_step accepts) e ∙ (table_again accepts backend t h).0 in let x : Ok (0 + length (literals t)) ≡ Err byte = sym g ∙ f in cc

-- what `CompactView::parse` needs
pub ruleset tables = (backend_is, is_found, is_only, is_no_fault)
