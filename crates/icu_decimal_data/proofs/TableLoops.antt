-- Steps of the two loops.
use Rattle.std.proofs.Common.{◌≡◌, ℕ, suc, ◌+◌, ◌-◌, ◌*◌, ◌<◌, ◌≤◌, Bool, List, take, drop, slice_range, Option, Some, Result, Ok}
use Rattle.std.proofs.Common.{Err, eqb, sym, ap, ◌∙◌, arith, inl, inr}
use Rattle.std.proofs.lemmas.List.{drop-drop}
use Rattle.std.proofs.lemmas.Bool.{eq-eqb, ne_eqb, cases_eq}
use Rattle.icu_pattern.specs.Patterns.{PatternText}
use Rattle.icu_decimal_data.specs.TableReading.{slot_step, slots_step, record_step, records_step, ◌>>=◌}

range_is : (bytes : List ℕ) (a b : ℕ) → take b (drop a bytes) ≡ slice_range bytes a (a + b)
range_is bytes a b = ap (λ (k : ℕ). take k (drop a bytes)) (omega arith)

module _ (accepts : PatternText → Bool) (pool : List ℕ) (pool_at : ℕ) where
  slot_here : (j at sum : ℕ) (bytes : List ℕ) → j < 8 →
      slots_step accepts pool pool_at (8 - j) (at + 7 * j) sum (drop (7 * j) bytes)
      ≡ (slot_step accepts pool pool_at (eqb j 7) (at + 7 * j) sum (slice_range bytes (7 * j) (7 * j + 7)) >>= λ next. slots_step accepts pool pool_at
      (8 - (j + 1)) (at + 7 * (j + 1)) next (drop (7 * (j + 1)) bytes))
  unfolding slots_step
  slot_here j at sum bytes lt =
      let count : 8 - j ≡ suc (8 - (j + 1)) = omega arith in
      let last : eqb (8 - (j + 1)) 0 ≡ eqb j 7 = last_is j lt in
      let place : (at + 7 * j) + 7 ≡ at + 7 * (j + 1) = omega arith in
      let more : 7 * j + 7 ≡ 7 * (j + 1) = omega arith in
      let rest : drop 7 (drop (7 * j) bytes) ≡ drop (7 * (j + 1)) bytes = drop-drop 7 (7 * j) bytes ∙ ap (λ (k : ℕ). drop k bytes) more in
      ap (λ (n : ℕ). slots_step accepts pool pool_at n (at + 7 * j) sum (drop (7 * j) bytes)) count
      ∙ ap (λ (b : Bool). slot_step accepts pool pool_at b (at + 7 * j) sum (take 7 (drop (7 * j) bytes)) >>= λ next. slots_step accepts pool pool_at
      (8 - (j + 1)) ((at + 7 * j) + 7) next (drop 7 (drop (7 * j) bytes))) last
      ∙ ap (λ (x : List ℕ). slot_step accepts pool pool_at (eqb j 7) (at + 7 * j) sum x >>= λ next. slots_step accepts pool pool_at (8 - (j + 1))
      ((at + 7 * j) + 7) next (drop 7 (drop (7 * j) bytes))) (range_is bytes (7 * j) 7)
      ∙ ap (λ (k : ℕ). slot_step accepts pool pool_at (eqb j 7) (at + 7 * j) sum (slice_range bytes (7 * j) (7 * j + 7)) >>= λ next. slots_step accepts
      pool pool_at (8 - (j + 1)) k next (drop 7 (drop (7 * j) bytes))) place
      ∙ ap (λ (x : List ℕ). slot_step accepts pool pool_at (eqb j 7) (at + 7 * j) sum (slice_range bytes (7 * j) (7 * j + 7)) >>= λ next. slots_step
      accepts pool pool_at (8 - (j + 1)) (at + 7 * (j + 1)) next x) rest
    where
      last_is : (j : ℕ) → j < 8 → eqb (8 - (j + 1)) 0 ≡ eqb j 7
      last_is j lt = elim (cases_eq j 7) [
        | inl same ↦ eq-eqb (8 - (j + 1)) 0 (omega arith) ∙ sym (eq-eqb j 7 same)
        | inr other ↦ ne_eqb (8 - (j + 1)) 0 (λ e. other (omega arith)) ∙ sym (ne_eqb j 7 other)
      ]

  pub slots_go_on : (j at sum next : ℕ) (bytes : List ℕ) (r : Result ℕ ℕ) → j < 8 →
      slot_step accepts pool pool_at (eqb j 7) (at + 7 * j) sum (slice_range bytes (7 * j) (7 * j + 7)) ≡ Ok next
      → slots_step accepts pool pool_at (8 - j) (at + 7 * j) sum (drop (7 * j) bytes) ≡ r →
      slots_step accepts pool pool_at (8 - (j + 1)) (at + 7 * (j + 1)) next (drop (7 * (j + 1)) bytes) ≡ r
  slots_go_on j at sum next bytes r lt e h = sym (slot_here j at sum bytes lt
      ∙ ap (λ (x : Result ℕ ℕ). x >>= λ next. slots_step accepts pool pool_at (8 - (j + 1)) (at + 7 * (j + 1)) next (drop (7 * (j + 1)) bytes)) e) ∙ h

  pub slots_end : (j at sum byte : ℕ) (bytes : List ℕ) (r : Result ℕ ℕ) → j < 8 →
      slot_step accepts pool pool_at (eqb j 7) (at + 7 * j) sum (slice_range bytes (7 * j) (7 * j + 7)) ≡ Err byte
      → slots_step accepts pool pool_at (8 - j) (at + 7 * j) sum (drop (7 * j) bytes) ≡ r → r ≡ Err byte
  slots_end j at sum byte bytes r lt e h = sym h ∙ slot_here j at sum bytes lt
      ∙ ap (λ (x : Result ℕ ℕ). x >>= λ next. slots_step accepts pool pool_at (8 - (j + 1)) (at + 7 * (j + 1)) next (drop (7 * (j + 1)) bytes)) e

  pub slots_done : (j at sum : ℕ) (bytes : List ℕ) (r : Result ℕ ℕ) → 8 ≤ j →
      slots_step accepts pool pool_at (8 - j) (at + 7 * j) sum (drop (7 * j) bytes) ≡ r → r ≡ Ok sum
  unfolding slots_step
  slots_done j at sum bytes r le h = let e : 8 - j ≡ 0 = omega arith in
      sym h ∙ ap (λ (n : ℕ). slots_step accepts pool pool_at n (at + 7 * j) sum (drop (7 * j) bytes)) e

  record_here : (n i sum : ℕ) (before : Option (List ℕ)) (bytes : List ℕ) → i < n →
      records_step accepts pool pool_at (n - i) before (4 + 58 * i) sum (drop (58 * i) bytes)
      ≡ (record_step accepts pool pool_at before (4 + 58 * i) sum (slice_range bytes (58 * i) (58 * i + 58)) >>= λ next. records_step accepts pool pool_at
      (n - (i + 1)) (Some (slice_range bytes (58 * i) (58 * i + 58))) (4 + 58 * (i + 1)) next (drop (58 * (i + 1)) bytes))
  unfolding records_step
  record_here n i sum before bytes lt =
      let count : n - i ≡ suc (n - (i + 1)) = omega arith in
      let place : (4 + 58 * i) + 58 ≡ 4 + 58 * (i + 1) = omega arith in
      let more : 58 * i + 58 ≡ 58 * (i + 1) = omega arith in
      let rest : drop 58 (drop (58 * i) bytes) ≡ drop (58 * (i + 1)) bytes = drop-drop 58 (58 * i) bytes ∙ ap (λ (k : ℕ). drop k bytes) more in
      ap (λ (m : ℕ). records_step accepts pool pool_at m before (4 + 58 * i) sum (drop (58 * i) bytes)) count
      ∙ ap (λ (x : List ℕ). record_step accepts pool pool_at before (4 + 58 * i) sum x >>= λ next. records_step accepts pool pool_at (n - (i + 1))
      (Some x) ((4 + 58 * i) + 58) next (drop 58 (drop (58 * i) bytes))) (range_is bytes (58 * i) 58)
      ∙ ap (λ (k : ℕ). record_step accepts pool pool_at before (4 + 58 * i) sum (slice_range bytes (58 * i) (58 * i + 58)) >>= λ next. records_step
      accepts pool pool_at (n - (i + 1)) (Some (slice_range bytes (58 * i) (58 * i + 58))) k next (drop 58 (drop (58 * i) bytes))) place
      ∙ ap (λ (x : List ℕ). record_step accepts pool pool_at before (4 + 58 * i) sum (slice_range bytes (58 * i) (58 * i + 58)) >>= λ next. records_step
      accepts pool pool_at (n - (i + 1)) (Some (slice_range bytes (58 * i) (58 * i + 58))) (4 + 58 * (i + 1)) next x) rest

  pub records_go_on : (n i sum next : ℕ) (before : Option (List ℕ)) (bytes : List ℕ) (r : Result ℕ ℕ) → i < n →
      record_step accepts pool pool_at before (4 + 58 * i) sum (slice_range bytes (58 * i) (58 * i + 58)) ≡ Ok next
      → records_step accepts pool pool_at (n - i) before (4 + 58 * i) sum (drop (58 * i) bytes) ≡ r →
      records_step accepts pool pool_at (n - (i + 1)) (Some (slice_range bytes (58 * i) (58 * i + 58))) (4 + 58 * (i + 1)) next (drop (58 * (i + 1)) bytes)
      ≡ r
  records_go_on n i sum next before bytes r lt e h = sym (record_here n i sum before bytes lt
      ∙ ap (λ (x : Result ℕ ℕ). x >>= λ next. records_step accepts pool pool_at (n - (i + 1)) (Some (slice_range bytes (58 * i) (58 * i + 58)))
      (4 + 58 * (i + 1)) next (drop (58 * (i + 1)) bytes)) e) ∙ h

  pub records_end : (n i sum byte : ℕ) (before : Option (List ℕ)) (bytes : List ℕ) (r : Result ℕ ℕ) → i < n →
      record_step accepts pool pool_at before (4 + 58 * i) sum (slice_range bytes (58 * i) (58 * i + 58)) ≡ Err byte
      → records_step accepts pool pool_at (n - i) before (4 + 58 * i) sum (drop (58 * i) bytes) ≡ r → r ≡ Err byte
  records_end n i sum byte before bytes r lt e h = sym h ∙ record_here n i sum before bytes lt
      ∙ ap (λ (x : Result ℕ ℕ). x >>= λ next. records_step accepts pool pool_at (n - (i + 1)) (Some (slice_range bytes (58 * i) (58 * i + 58)))
      (4 + 58 * (i + 1)) next (drop (58 * (i + 1)) bytes)) e

  pub records_done : (n i sum : ℕ) (before : Option (List ℕ)) (bytes : List ℕ) (r : Result ℕ ℕ) → n ≤ i →
      records_step accepts pool pool_at (n - i) before (4 + 58 * i) sum (drop (58 * i) bytes) ≡ r → r ≡ Ok sum
  unfolding records_step
  records_done n i sum before bytes r le h = let e : n - i ≡ 0 = omega arith in
      sym h ∙ ap (λ (m : ℕ). records_step accepts pool pool_at m before (4 + 58 * i) sum (drop (58 * i) bytes)) e

-- the steps of the loop over the slots of a record
pub ruleset slots_loop = (slots_go_on, slots_end, slots_done)

-- the steps of the loop over the records
pub ruleset records_loop = (records_go_on, records_end, records_done)
