-- A damaged byte is not above the length.
use Rattle.std.proofs.Common.{◌≡◌, ℕ, zero, suc, ◌+◌, ◌-◌, ◌*◌, ◌≤◌, Bool, true, false, not, min, List, length, take, drop}
use Rattle.std.proofs.Common.{slice_index, Option, Some, None, Result, Ok, Err, cond, eqb, ltb, refl, arith}
use Rattle.std.specs.List.{list_all}
use Rattle.std.proofs.lemmas.Bool.{eqb-true, ltb-false}
use Rattle.std.proofs.lemmas.List.{length-drop}
use Rattle.icu_pattern.specs.Patterns.{PatternText}
use Rattle.icu_decimal_data.specs.PackedTable.{is_pattern}
use Rattle.icu_decimal_data.specs.TableReading.{two_byte_number, pattern_in, count_in, pool_start, pool_in, whole_len, unless, ◌>>=◌, is_wrong_kind}
use Rattle.icu_decimal_data.specs.TableReading.{is_wrong_placeholder, is_wrong_type, is_wrong_exponent, is_repeated, slot_step, slots_step, record_step}
use Rattle.icu_decimal_data.specs.TableReading.{records_step, table_step}
use Rattle.icu_decimal_data.proofs.TableBasics.{IsBytes, IsBytes-drop, not_false}
use Rattle.icu_decimal_data.proofs.RecordLaws.{TakenRecords, records_taken}

no_error : (x d top : ℕ) → Ok x ≡ Err d → d ≤ top
no_error x d top e = absurd cc

unless_inside : (b : Bool) (byte : ℕ) (rest : Result ℕ ℕ) (d top : ℕ) → unless b byte rest ≡ Err d → byte ≤ top →
    (b ≡ false → rest ≡ Err d → d ≤ top) → d ≤ top
unless_inside true byte rest d top e le f = let same : byte ≡ d = cc in omega arith
unless_inside false byte rest d top e le f = f refl e

bind_inside : (r : Result ℕ ℕ) (f : ℕ → Result ℕ ℕ) (d top : ℕ) → (r >>= f) ≡ Err d → (r ≡ Err d → d ≤ top) →
    ((x : ℕ) → r ≡ Ok x → f x ≡ Err d → d ≤ top) → d ≤ top
bind_inside (Ok x) f d top e a b = b x refl e
bind_inside (Err y) f d top e a b = a e

module _ (accepts : PatternText → Bool) (pool : List ℕ) (pool_at top : ℕ) (room : pool_at + length pool ≤ top) where
  slot_inside : (last : Bool) (at sum : ℕ) (slot : List ℕ) (d : ℕ) → at + 7 ≤ top → slot_step accepts pool pool_at last at sum slot ≡ Err d →
      d ≤ top
  unfolding slot_step
  slot_inside last at sum slot d le e = unless_inside (is_wrong_kind accepts last (slice_index slot 0)) at _ d top e (omega arith)
      (λ _ rest. by_kind (eqb (slice_index slot 0) 0) rest)
    where
      present : unless (not (eqb (two_byte_number slot 1) sum)) (at + 1)
          (unless (ltb (length pool) (two_byte_number slot 1 + two_byte_number slot 3)) (at + 3)
          (unless (is_wrong_placeholder slot) (at + 5) (unless (not (is_pattern accepts (pattern_in pool slot))) (pool_at + two_byte_number slot 1)
          (Ok (sum + two_byte_number slot 3))))) ≡ Err d → d ≤ top
      present e =
          unless_inside (not (eqb (two_byte_number slot 1) sum)) (at + 1) _ d top e (omega arith) (λ _ e.
          unless_inside (ltb (length pool) (two_byte_number slot 1 + two_byte_number slot 3)) (at + 3) _ d top e (omega arith) (λ fits e.
          unless_inside (is_wrong_placeholder slot) (at + 5) _ d top e (omega arith) (λ _ e.
          let within : two_byte_number slot 1 + two_byte_number slot 3 ≤ length pool = ltb-false _ _ fits in
          unless_inside (not (is_pattern accepts (pattern_in pool slot))) (pool_at + two_byte_number slot 1) (Ok (sum + two_byte_number slot 3)) d top e
          (omega arith) (λ _ e. no_error (sum + two_byte_number slot 3) d top e))))

      by_kind : (b : Bool) → cond b (unless (not (list_all (λ x. eqb x 0) (drop 1 slot))) (at + 1) (Ok sum))
          (unless (not (eqb (two_byte_number slot 1) sum)) (at + 1) (unless (ltb (length pool) (two_byte_number slot 1 + two_byte_number slot 3)) (at + 3)
          (unless (is_wrong_placeholder slot) (at + 5) (unless (not (is_pattern accepts (pattern_in pool slot))) (pool_at + two_byte_number slot 1)
          (Ok (sum + two_byte_number slot 3)))))) ≡ Err d → d ≤ top
      by_kind true e = unless_inside (not (list_all (λ x. eqb x 0) (drop 1 slot))) (at + 1) (Ok sum) d top e (omega arith) (λ _ e. no_error sum d top e)
      by_kind false e = present e

  slots_inside : (n at sum : ℕ) (bytes : List ℕ) (d : ℕ) → at + 7 * n ≤ top → slots_step accepts pool pool_at n at sum bytes ≡ Err d → d ≤ top
  unfolding slots_step
  slots_inside zero at sum bytes d le e = no_error sum d top e
  slots_inside (suc n) at sum bytes d le e =
      bind_inside (slot_step accepts pool pool_at (eqb n 0) at sum (take 7 bytes)) (λ next. slots_step accepts pool pool_at n (at + 7) next (drop 7 bytes)) d
      top e
      (slot_inside (eqb n 0) at sum (take 7 bytes) d (omega arith))
      (λ x _ q. slots_inside n (at + 7) x (drop 7 bytes) d (omega arith) q)

  record_inside : (before : Option (List ℕ)) (at sum : ℕ) (bytes : List ℕ) (d : ℕ) → at + 58 ≤ top →
      record_step accepts pool pool_at before at sum bytes ≡ Err d → d ≤ top
  unfolding record_step
  record_inside before at sum bytes d le e =
      unless_inside (is_wrong_type before bytes) at _ d top e (omega arith) (λ _ e.
      unless_inside (is_wrong_exponent before bytes) (at + 1) _ d top e (omega arith) (λ _ e.
      bind_inside (slots_step accepts pool pool_at 8 (at + 2) sum (drop 2 bytes)) (λ next. unless (is_repeated pool before bytes) at (Ok next)) d top e
      (slots_inside 8 (at + 2) sum (drop 2 bytes) d (omega arith))
      (λ x _ e. unless_inside (is_repeated pool before bytes) at (Ok x) d top e (omega arith) (λ _ e. no_error x d top e))))

  records_inside : (n : ℕ) (before : Option (List ℕ)) (at sum : ℕ) (bytes : List ℕ) (d : ℕ) → at + 58 * n ≤ top →
      records_step accepts pool pool_at n before at sum bytes ≡ Err d → d ≤ top
  unfolding records_step
  records_inside zero before at sum bytes d le e = no_error sum d top e
  records_inside (suc n) before at sum bytes d le e =
      bind_inside (record_step accepts pool pool_at before at sum (take 58 bytes))
      (λ next. records_step accepts pool pool_at n (Some (take 58 bytes)) (at + 58) next (drop 58 bytes)) d top e
      (record_inside before at sum (take 58 bytes) d (omega arith))
      (λ x _ q. records_inside n (Some (take 58 bytes)) (at + 58) x (drop 58 bytes) d (omega arith) q)

-- the damaged byte of a table is at most the length of its bytes
pub damage_inside : (accepts : PatternText → Bool) (bytes : List ℕ) (d : ℕ) → IsBytes bytes → table_step accepts bytes ≡ Err d →
    d ≤ length bytes
unfolding table_step
damage_inside accepts bytes d fits e =
    let n = count_in bytes in
    let len = two_byte_number bytes 2 in
    let pool = pool_in bytes in
    let top = length bytes in
    unless_inside (ltb (length bytes) 4) (length bytes) _ d top e (omega arith) (λ _ e.
    unless_inside (ltb 256 n) 0 _ d top e (omega arith) (λ _ e.
    unless_inside (not (eqb (length bytes) (whole_len bytes))) (min (length bytes) (whole_len bytes)) _ d top e (omega arith) (λ right e.
    let whole : length bytes ≡ whole_len bytes = eqb-true _ _ (not_false _ right) in
    let pool_len : length pool ≡ length bytes - pool_start bytes = length-drop (pool_start bytes) bytes in
    bind_inside (records_step accepts pool (pool_start bytes) n None 4 0 (drop 4 bytes)) (λ sum. unless (not (eqb sum len)) (pool_start bytes + sum) (Ok sum))
    d top e
    (records_inside accepts pool (pool_start bytes) top (omega arith) n None 4 0 (drop 4 bytes) d (omega arith))
    (λ sum p e.
    let t : TakenRecords accepts pool (pool_start bytes) None n 0 (drop 4 bytes) sum =
    records_taken accepts pool (pool_start bytes) n None None 4 0 (drop 4 bytes) sum (omega (arith, length-drop 4 bytes)) (IsBytes-drop 4 bytes fits) tt
    (omega arith) p in
    let within : sum ≤ length pool = t.inside in
    unless_inside (not (eqb sum len)) (pool_start bytes + sum) (Ok sum) d top e (omega arith) (λ _ e. no_error sum d top e)))))
