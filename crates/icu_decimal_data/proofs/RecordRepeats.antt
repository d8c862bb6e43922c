-- When a record repeats the one before it.
use Rattle.std.proofs.Common.{◌≡◌, ℕ, suc, arith, ◌+◌, ◌-◌, ◌<◌, ◌≤◌, Bool, true, false, cond, ◌&&◌, List, [], ◌∷◌, drop}
use Rattle.std.proofs.Common.{slice_index, Option, Some, None, eqb, refl, sym, ap, ◌∙◌}
use Rattle.std.specs.Option.{option_eq}
use Rattle.icu_pattern.specs.Patterns.{PatternText, same_pattern}
use Rattle.icu_decimal_data.specs.PackedTable.{is_pattern}
use Rattle.icu_decimal_data.specs.TableReading.{same_slots, slots_without_explicit_one}
use Rattle.icu_decimal_data.specs.TableReading.{pattern_in, slot_in, slots_in, slot_at, is_repeated, same_at, same_from}
use Rattle.icu_decimal_data.proofs.SlotListLaws.{slots_by_place}

-- whether a pattern is good, by its place and its literal
pub good_is : (accepts : PatternText → Bool) (p : PatternText) (place : Option ℕ) (literal : List ℕ) (b : Bool) → place ≡ p.placeholder →
    literal ≡ p.literal → b ≡ is_pattern accepts (record { placeholder = place; literal = literal }) → b ≡ is_pattern accepts p
good_is accepts p place literal b e f h = h ∙ ap (λ (o : Option ℕ). is_pattern accepts (record { placeholder = o; literal = literal })) e
    ∙ ap (λ (l : List ℕ). is_pattern accepts (record { placeholder = p.placeholder; literal = l })) f

absent_is : (b : Bool) (p : PatternText) → option_eq same_pattern None (cond b None (Some p)) ≡ b
absent_is true p = refl
absent_is false p = refl

-- a record repeats another by its first, second and later slots
pub repeated_is : (pool before bytes : List ℕ) → is_repeated pool (Some before) bytes
    ≡ (same_at pool before bytes 0 && (eqb (slice_index (slot_at (drop 2 bytes) 1) 0) 0 && same_from pool before bytes 2 6))
repeated_is pool before bytes =
    let a = slots_by_place pool (drop 2 before) in
    let b = slots_by_place pool (drop 2 bytes) in
    let absent = absent_is (eqb (slice_index (slot_at (drop 2 bytes) 1) 0) 0) (pattern_in pool (slot_at (drop 2 bytes) 1)) in
    ap (λ (xs : List (Option PatternText)). same_slots (slots_without_explicit_one xs) (slots_in pool 8 (drop 2 bytes))) a
    ∙ ap (λ (ys : List (Option PatternText)). same_slots (slots_without_explicit_one
    (slot_in pool (slot_at (drop 2 before) 0) ∷ slot_in pool (slot_at (drop 2 before) 1) ∷ slot_in pool (slot_at (drop 2 before) 2) ∷ slot_in pool
    (slot_at (drop 2 before) 3) ∷ slot_in pool (slot_at (drop 2 before) 4) ∷ slot_in pool (slot_at (drop 2 before) 5) ∷ slot_in pool
    (slot_at (drop 2 before) 6) ∷ slot_in pool (slot_at (drop 2 before) 7) ∷ [])) ys) b
    ∙ ap (λ (x : Bool). same_at pool before bytes 0 && (x && same_from pool before bytes 2 6)) absent

module _ (pool before bytes : List ℕ) (j : ℕ) (r : Bool) (h : same_from pool before bytes j (8 - j) ≡ r) where
  -- the same slot, and then the later ones
  pub same_goes_on : j < 8 → same_at pool before bytes j ≡ true → same_from pool before bytes (j + 1) (8 - (j + 1)) ≡ r
  same_goes_on lt t =
      let e : 8 - j ≡ suc (8 - (j + 1)) = omega arith in
      let f : same_from pool before bytes j (suc (8 - (j + 1))) ≡ same_from pool before bytes (j + 1) (8 - (j + 1)) =
      ap (λ (b : Bool). b && same_from pool before bytes (j + 1) (8 - (j + 1))) t in
      sym f ∙ ap (same_from pool before bytes j) (sym e) ∙ h

  -- another slot ends it
  pub same_ends : j < 8 → same_at pool before bytes j ≡ false → false ≡ r
  same_ends lt t =
      let e : 8 - j ≡ suc (8 - (j + 1)) = omega arith in
      let f : same_from pool before bytes j (suc (8 - (j + 1))) ≡ false = ap (λ (b : Bool). b && same_from pool before bytes (j + 1) (8 - (j + 1))) t in
      sym f ∙ ap (same_from pool before bytes j) (sym e) ∙ h

  pub same_done : 8 ≤ j → true ≡ r
  same_done le = let e : 8 - j ≡ 0 = omega arith in sym (ap (same_from pool before bytes j) e) ∙ h

-- the steps of the loop over the later slots
pub ruleset repeats = (same_goes_on, same_ends, same_done)

-- whether a slot is the same in two records, by their bytes
pub same_at_is : (pool before bytes : List ℕ) (j : ℕ) (a b : List ℕ) (x : Bool) → a ≡ slot_at (drop 2 before) j → b ≡ slot_at (drop 2 bytes) j →
    x ≡ option_eq same_pattern (slot_in pool a) (slot_in pool b) → x ≡ same_at pool before bytes j
same_at_is pool before bytes j a b x e f h = h ∙ ap (λ (s : List ℕ). option_eq same_pattern (slot_in pool s) (slot_in pool b)) e
    ∙ ap (λ (s : List ℕ). option_eq same_pattern (slot_in pool (slot_at (drop 2 before) j)) (slot_in pool s)) f
