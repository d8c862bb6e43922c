-- A slot that is read is written so, and a slot that is written is read.
-- Read: the seven bytes are seven variables, so that numbers in them compute, and the kind splits the cases (`taken`): 0 is an absent slot of
-- zeros, 1 and 2 share `present_taken`, which has kind and place as parameters, and above 2 the check rejects. The bytes of a number come
-- back by `low_is` and `high_is` of TableBasics. Written (`slot_again`): by the pattern and its place, `kind_again` puts in the answer of each
-- test of `slot_step`; that the place lies in the literal, and that the backend knows places, is `IsBackend`.
use Rattle.std.proofs.Common.{◌≡◌, ℕ, zero, suc, ◌+◌, ◌*◌, ◌/◌, ◌%◌, ◌<◌, ◌≤◌, ◌^◌, Bool, true, false, cond, not}
use Rattle.std.proofs.Common.{◌&&◌, ◌||◌, IsTrue, IsSome, List, [], ◌∷◌, length, slice_range, Option, Some, None, Ok, eqb, ltb, refl, sym, ap}
use Rattle.std.proofs.Common.{◌∙◌, arith}
use Rattle.std.specs.List.{list_all}
use Rattle.std.specs.Str.{is_utf8}
use Rattle.std.proofs.lemmas.Bool.{eqb-true, eq-eqb, ltb-false, le-ltb, and_parts, or_parts}
use Rattle.icu_pattern.specs.Patterns.{PatternText, placeholder_alone}
use Rattle.icu_decimal_data.specs.PackedTable.{is_pattern, IsBackend}
use Rattle.icu_decimal_data.specs.PackedTable.{ArePatterns, literal_of}
use Rattle.icu_decimal_data.specs.TableBytes.{kind_of, placeholder_number, slot_bytes}
use Rattle.icu_decimal_data.specs.TableReading.{two_byte_number, pattern_in, slot_in, unless, is_wrong_kind, is_wrong_placeholder, slot_step}
use Rattle.icu_decimal_data.proofs.TableBasics.{IsBytes, unless_ok, ok_is, not_false, low_is, high_is, joined_is, length-range, nothing_at}

-- what is known of a slot that was read
pub record Taken (accepts : PatternText → Bool) (pool : List ℕ) (last : Bool) (sum : ℕ) (slot : List ℕ) (next : ℕ) : Type 0 where
  pub bytes : slot_bytes sum (slot_in pool slot) ≡ slot
  pub next_is : next ≡ sum + length (literal_of (slot_in pool slot))
  pub literal : slice_range pool sum next ≡ literal_of (slot_in pool slot)
  pub inside : next ≤ length pool
  pub patterns : ArePatterns accepts (slot_in pool slot ∷ [])
  pub present : last ≡ true → IsSome (slot_in pool slot)

module _ (accepts : PatternText → Bool) (pool : List ℕ) (pool_at : ℕ) (last : Bool) (at sum : ℕ) where
  absent_taken : (s0 s1 l0 l1 p0 p1 next : ℕ) → sum ≤ length pool
      → slot_step accepts pool pool_at last at sum (0 ∷ s0 ∷ s1 ∷ l0 ∷ l1 ∷ p0 ∷ p1 ∷ []) ≡ Ok next →
      Taken accepts pool last sum (0 ∷ s0 ∷ s1 ∷ l0 ∷ l1 ∷ p0 ∷ p1 ∷ []) next
  unfolding slot_step
  absent_taken s0 s1 l0 l1 p0 p1 next le e =
      let a = unless_ok (is_wrong_kind accepts last 0) at _ next e in
      let b = unless_ok (not (list_all (λ (b : ℕ). eqb b 0) (s0 ∷ s1 ∷ l0 ∷ l1 ∷ p0 ∷ p1 ∷ []))) (at + 1) (Ok sum) next a.1 in
      let z = not_false (list_all (λ (b : ℕ). eqb b 0) (s0 ∷ s1 ∷ l0 ∷ l1 ∷ p0 ∷ p1 ∷ [])) b.0 in
      let z0 = and_parts (eqb s0 0) _ z in
      let z1 = and_parts (eqb s1 0) _ z0.1 in
      let z2 = and_parts (eqb l0 0) _ z1.1 in
      let z3 = and_parts (eqb l1 0) _ z2.1 in
      let z4 = and_parts (eqb p0 0) _ z3.1 in
      let z5 = and_parts (eqb p1 0) _ z4.1 in
      let e0 : s0 ≡ 0 = eqb-true _ _ z0.0 in
      let e1 : s1 ≡ 0 = eqb-true _ _ z1.0 in
      let e2 : l0 ≡ 0 = eqb-true _ _ z2.0 in
      let e3 : l1 ≡ 0 = eqb-true _ _ z3.0 in
      let e4 : p0 ≡ 0 = eqb-true _ _ z4.0 in
      let e5 : p1 ≡ 0 = eqb-true _ _ z5.0 in
      let same : sum ≡ next = ok_is sum next b.1 in
      record {
        bytes = cc;
        next_is = omega arith;
        literal = rw (← same) (nothing_at pool sum);
        inside = omega arith;
        patterns = tt;
        present = λ t. absurd (let f = or_parts false _ a.0 in let g = or_parts (last && true) _ f.1 in and_last last t g.0);
      }
    where
      and_last : (l : Bool) → l ≡ true → (l && true) ≡ false → ⊥
      and_last true t f = absurd cc
      and_last false t f = absurd cc

  -- a slot of kind 1 or 2
  module _ (k s0 s1 l0 l1 p0 p1 next : ℕ) (b0 : s0 < 256) (b1 : l0 < 256) (b2 : p0 < 256) (nonzero : eqb k 0 ≡ false)
      (placeholder : Option ℕ) (placeholder_is : cond (eqb k 2) (Some (p0 + 256 * p1)) None ≡ placeholder) (kind_is : kind_of placeholder ≡ k)
      (number_is : is_wrong_placeholder (k ∷ s0 ∷ s1 ∷ l0 ∷ l1 ∷ p0 ∷ p1 ∷ []) ≡ false → placeholder_number placeholder ≡ p0 + 256 * p1)
    where
      present_taken : slot_step accepts pool pool_at last at sum (k ∷ s0 ∷ s1 ∷ l0 ∷ l1 ∷ p0 ∷ p1 ∷ []) ≡ Ok next →
          Taken accepts pool last sum (k ∷ s0 ∷ s1 ∷ l0 ∷ l1 ∷ p0 ∷ p1 ∷ []) next
      unfolding slot_step
      present_taken e =
          let slot = k ∷ s0 ∷ s1 ∷ l0 ∷ l1 ∷ p0 ∷ p1 ∷ [] in
          let a = unless_ok (is_wrong_kind accepts last k) at _ next e in
          let inner : unless (not (eqb (two_byte_number slot 1) sum)) (at + 1)
          (unless (ltb (length pool) (two_byte_number slot 1 + two_byte_number slot 3)) (at + 3)
          (unless (is_wrong_placeholder slot) (at + 5) (unless (not (is_pattern accepts (pattern_in pool slot))) (pool_at + two_byte_number slot 1)
          (Ok (sum + two_byte_number slot 3))))) ≡ Ok next = rw nonzero at a.1 in
          let b = unless_ok (not (eqb (two_byte_number slot 1) sum)) (at + 1) _ next inner in
          let c = unless_ok (ltb (length pool) (two_byte_number slot 1 + two_byte_number slot 3)) (at + 3) _ next b.1 in
          let d = unless_ok (is_wrong_placeholder slot) (at + 5) _ next c.1 in
          let f = unless_ok (not (is_pattern accepts (pattern_in pool slot))) (pool_at + two_byte_number slot 1) (Ok (sum + two_byte_number slot 3)) next d.1 in
          let starts : two_byte_number slot 1 ≡ sum = eqb-true _ _ (not_false _ b.0) in
          let fits : two_byte_number slot 1 + two_byte_number slot 3 ≤ length pool = ltb-false _ _ c.0 in
          let next_is : sum + two_byte_number slot 3 ≡ next = ok_is _ _ f.1 in
          let here : slot_in pool slot ≡ Some (pattern_in pool slot) = rw nonzero refl in
          let range : slice_range pool sum next ≡ (pattern_in pool slot).literal = rw (← next_is, ← starts) refl in
          let long : length (pattern_in pool slot).literal ≡ two_byte_number slot 3 =
          length-range pool (two_byte_number slot 1) (two_byte_number slot 1 + two_byte_number slot 3) (omega arith) fits ∙ omega arith in
          let placeholder_number_is = number_is d.0 in
          let q0 : sum % 256 ≡ s0 = rw (← starts) (low_is s0 s1 b0) in
          let q1 : sum / 256 ≡ s1 = rw (← starts) (high_is s0 s1 b0) in
          let q2 : length (pattern_in pool slot).literal % 256 ≡ l0 = rw long (low_is l0 l1 b1) in
          let q3 : length (pattern_in pool slot).literal / 256 ≡ l1 = rw long (high_is l0 l1 b1) in
          let q4 : placeholder_number placeholder % 256 ≡ p0 = rw placeholder_number_is (low_is p0 p1 b2) in
          let q5 : placeholder_number placeholder / 256 ≡ p1 = rw placeholder_number_is (high_is p0 p1 b2) in
          let written : slot_bytes sum (Some (pattern_in pool slot)) ≡ slot = rw placeholder_is (cc) in
          record {
            bytes = rw here written;
            next_is = rw here (omega arith);
            literal = rw here range;
            inside = omega arith;
            patterns = rw here (not_false _ f.0, tt);
            present = λ t. rw here refl;
          }

  taken : (k s0 s1 l0 l1 p0 p1 next : ℕ) → s0 < 256 → l0 < 256 → p0 < 256 → sum ≤ length pool
      → slot_step accepts pool pool_at last at sum (k ∷ s0 ∷ s1 ∷ l0 ∷ l1 ∷ p0 ∷ p1 ∷ []) ≡ Ok next →
      Taken accepts pool last sum (k ∷ s0 ∷ s1 ∷ l0 ∷ l1 ∷ p0 ∷ p1 ∷ []) next
  unfolding slot_step
  taken zero s0 s1 l0 l1 p0 p1 next b0 b1 b2 le e = absent_taken s0 s1 l0 l1 p0 p1 next le e
  taken (suc zero) s0 s1 l0 l1 p0 p1 next b0 b1 b2 le e =
      present_taken 1 s0 s1 l0 l1 p0 p1 next b0 b1 b2 refl None refl refl
      (λ w. let f = or_parts (ltb (l0 + 256 * l1) (p0 + 256 * p1)) _ w in sym (eqb-true _ _ (not_false _ f.1))) e
  taken (suc (suc zero)) s0 s1 l0 l1 p0 p1 next b0 b1 b2 le e =
      present_taken 2 s0 s1 l0 l1 p0 p1 next b0 b1 b2 refl (Some (p0 + 256 * p1)) refl refl (λ w. refl) e
  taken (suc (suc (suc k))) s0 s1 l0 l1 p0 p1 next b0 b1 b2 le e =
      let a = unless_ok (is_wrong_kind accepts last (suc (suc (suc k)))) at _ next e in
      let f = or_parts (ltb 2 (suc (suc (suc k)))) _ a.0 in
      let g = ltb-false 2 (suc (suc (suc k))) f.0 in
      absurd (omega arith)

  -- the same of any seven bytes
  pub slot_taken : (slot : List ℕ) (next : ℕ) → length slot ≡ 7 → IsBytes slot → sum ≤ length pool →
      slot_step accepts pool pool_at last at sum slot ≡ Ok next → Taken accepts pool last sum slot next
  slot_taken [] next seven bytes le e = absurd (omega arith)
  slot_taken (a ∷ []) next seven bytes le e = absurd (omega arith)
  slot_taken (a ∷ b ∷ []) next seven bytes le e = absurd (omega arith)
  slot_taken (a ∷ b ∷ c ∷ []) next seven bytes le e = absurd (omega arith)
  slot_taken (a ∷ b ∷ c ∷ d ∷ []) next seven bytes le e = absurd (omega arith)
  slot_taken (a ∷ b ∷ c ∷ d ∷ f ∷ []) next seven bytes le e = absurd (omega arith)
  slot_taken (a ∷ b ∷ c ∷ d ∷ f ∷ g ∷ []) next seven bytes le e = absurd (omega arith)
  slot_taken (a ∷ b ∷ c ∷ d ∷ f ∷ g ∷ h ∷ []) next seven bytes le e = taken a b c d f g h next (bytes 1) (bytes 3) (bytes 5) le e
  slot_taken (a ∷ b ∷ c ∷ d ∷ f ∷ g ∷ h ∷ i ∷ rest) next seven bytes le e = absurd (omega arith)

  -- ---- what is written is read

  -- a slot of a pattern, by its kind and its place
  module _ (p : PatternText) (kind placeholder : ℕ) (kind_is : kind_of p.placeholder ≡ kind)
      (placeholder_is : placeholder_number p.placeholder ≡ placeholder)
      (nonzero : eqb kind 0 ≡ false)
      (right_kind : is_wrong_kind accepts last kind ≡ false) (placeholder_back : cond (eqb kind 2) (Some placeholder) None ≡ p.placeholder)
      (right_placeholder : (ltb (length p.literal) placeholder || (eqb kind 1 && not (eqb placeholder 0))) ≡ false) where
    kind_again : is_pattern accepts p ≡ true → length pool < 2 ^ 16 → sum + length p.literal ≤ length pool →
        slice_range pool sum (sum + length p.literal) ≡ p.literal
        → (slot_step accepts pool pool_at last at sum (slot_bytes sum (Some p)) ≡ Ok (sum + length p.literal))
        × (slot_in pool (slot_bytes sum (Some p)) ≡ Some p)
    unfolding slot_step
    kind_again good small fits range =
        let n1 = joined_is sum in
        let n3 = joined_is (length p.literal) in
        let n5 = joined_is placeholder in
        let t1 : eqb sum sum ≡ true = eq-eqb _ _ refl in
        let t2 : ltb (length pool) (sum + length p.literal) ≡ false = le-ltb _ _ fits in (
          rw (kind_is, placeholder_is, n1, n3, n5, right_kind, nonzero, t1, t2, right_placeholder, placeholder_back, range, good) refl,
          rw (kind_is, placeholder_is, n1, n3, n5, nonzero, placeholder_back, range) refl,
        )

  some_again : (p : PatternText) → IsBackend accepts → IsTrue (is_pattern accepts p) → length pool < 2 ^ 16 → sum + length p.literal ≤ length pool →
      slice_range pool sum (sum + length p.literal) ≡ p.literal
      → (slot_step accepts pool pool_at last at sum (slot_bytes sum (Some p)) ≡ Ok (sum + length p.literal))
      × (slot_in pool (slot_bytes sum (Some p)) ≡ Some p)
  some_again p backend good small fits range = go p.placeholder refl
    where
      no_last : (l : Bool) → (l && false) ≡ false
      no_last true = refl
      no_last false = refl

      go : (o : Option ℕ) → p.placeholder ≡ o → (slot_step accepts pool pool_at last at sum (slot_bytes sum (Some p)) ≡ Ok (sum + length p.literal))
          × (slot_in pool (slot_bytes sum (Some p)) ≡ Some p)
      go None e =
          let a : ltb (length p.literal) 0 ≡ false = le-ltb _ _ (omega arith) in
          let l = no_last last in
          kind_again p 1 0 (ap kind_of e) (ap placeholder_number e) refl (rw l refl) (sym e) (rw a refl) good small fits range
      go (Some k) e =
          let parts = and_parts (is_utf8 p.literal) (accepts p) good in
          let some : IsSome p.placeholder = rw e refl in
          let open_is : accepts placeholder_alone ≡ true = backend.opened p parts.1 some in
          let in_it = backend.inside p parts.1 in
          let inside : k ≤ length p.literal = rw e at in_it in
          let a : ltb (length p.literal) k ≡ false = le-ltb _ _ inside in
          let l = no_last last in
          kind_again p 2 k (ap kind_of e) (ap placeholder_number e) refl (rw (l, open_is) refl) (sym e) (rw a refl) good small fits range

  -- what is written of a slot is passed, and that slot stands in it
  pub slot_again : (s : Option PatternText) → IsBackend accepts → (last ≡ true → IsSome s) → ArePatterns accepts (s ∷ []) →
      length pool < 2 ^ 16 → sum + length (literal_of s) ≤ length pool
      → slice_range pool sum (sum + length (literal_of s)) ≡ literal_of s
      → (slot_step accepts pool pool_at last at sum (slot_bytes sum s) ≡ Ok (sum + length (literal_of s))) × (slot_in pool (slot_bytes sum s) ≡ s)
  unfolding slot_step
  slot_again None backend present patterns small fits range = (go last present, refl)
    where
      go : (l : Bool) → (l ≡ true → IsSome {T = PatternText} None) →
          slot_step accepts pool pool_at l at sum (0 ∷ 0 ∷ 0 ∷ 0 ∷ 0 ∷ 0 ∷ 0 ∷ []) ≡ Ok (sum + 0)
      go true h = absurd (let x = h refl in cc)
      go false h = let e : sum + 0 ≡ sum = omega arith in rw e refl
  slot_again (Some p) backend present patterns small fits range = some_again p backend patterns.0 small fits range
