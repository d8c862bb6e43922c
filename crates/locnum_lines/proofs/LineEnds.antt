-- The ends of lines in a block, one after the other, as `memchr_iter` lists them.
use Rattle.std.proofs.Common.{◌≡◌, ℕ, zero, suc, ◌+◌, ◌-◌, ◌<◌, ◌≤◌, Bool, true, false, List, [], ◌∷◌, ◌++◌, take, drop}
use Rattle.std.proofs.Common.{length, refl, sym, ap, ◌∙◌, arith}
use Rattle.std.specs.Prelude.{nat_le, slice_index, if◌then◌else◌}
use Rattle.std.proofs.lemmas.Bool.Decides.{nat_tests}
use Rattle.std.proofs.lemmas.Bool.{false≢true}
use Rattle.std.proofs.lemmas.List.{drop-drop, get_or-drop, length-drop}
use Rattle.locnum_lines.specs.Records.{IsPartLine}
use Rattle.locnum_lines.proofs.Feeding.{IsPartLine-all, IsPartLine-front, line_split}
use Rattle.memchr.specs.Find.{is_byte, NoneBefore, Nowhere, Passes, places_between, places_from}

-- the first of the places from i up to j, and the others
pub record IsFirstEnd (test : ℕ → Bool) (hay : List ℕ) (i j n : ℕ) (others : List ℕ) : Type 0 where
  pub none_before : NoneBefore (Passes test hay) i j n
  pub passes : Passes test hay n
  pub are_behind : others ≡ places_between test hay (n + 1) j

module _ (test : ℕ → Bool) (hay : List ℕ) where
  -- the first of some places among that many, and where there is none
  first-from : (i m n : ℕ) (others : List ℕ) → places_from test hay i m ≡ n ∷ others → IsFirstEnd test hay i (i + m) n others
  unfolding places_from
  first-from i zero n others e = absurd cc
  first-from i (suc m) n others e = go (test (slice_index hay i)) refl (first-from (i + 1) m n others) e
    where
      go : (t : Bool) → test (slice_index hay i) ≡ t →
          (places_from test hay (i + 1) m ≡ n ∷ others → IsFirstEnd test hay (i + 1) ((i + 1) + m) n others) →
          (if t then i ∷ places_from test hay (i + 1) m else places_from test hay (i + 1) m) ≡ n ∷ others →
          IsFirstEnd test hay i (i + suc m) n others
      go true p h f =
          let here : i ≡ n = cc in
          let rest : places_from test hay (i + 1) m ≡ others = cc in
          let count : (i + suc m) - (n + 1) ≡ m = omega (arith, here) in
          record {
            none_before = record { low = omega (arith, here); high = omega (arith, here); before = λ k low high. absurd (omega (arith, here, low, high)) };
            passes = ap (λ k. test (slice_index hay k)) (sym here) ∙ p;
            are_behind = rw (count, ← here) (sym rest);
          }
      go false p h f =
          let later = h f in
          let end : (i + 1) + m ≡ i + suc m = omega arith in
          record {
            none_before = record { low = omega (arith, later.none_before.low); high = omega (arith, later.none_before.high); before = before p later };
            passes = later.passes;
            are_behind = rw (← end) later.are_behind;
          }
        where
          -- not here, and nowhere behind
          before : test (slice_index hay i) ≡ false → IsFirstEnd test hay (i + 1) ((i + 1) + m) n others → Nowhere (Passes test hay) i n
          before p later k low high passes = pick (nat_le (i + 1) k) refl
            where
              pick : (u : Bool) → nat_le (i + 1) k ≡ u → ⊥
              pick true q = later.none_before.before k (grind (arith, nat_tests)) high passes
              pick false q =
                  let here : k ≡ i = grind (arith, nat_tests) in
                  false≢true (sym p ∙ ap (λ x. test (slice_index hay x)) (sym here) ∙ passes)

  first-none : (i m : ℕ) → places_from test hay i m ≡ [] → Nowhere (Passes test hay) i (i + m)
  unfolding places_from
  first-none i zero e = λ k low high. absurd (omega (arith, low, high))
  first-none i (suc m) e = go (test (slice_index hay i)) refl (first-none (i + 1) m) e
    where
      go : (t : Bool) → test (slice_index hay i) ≡ t → (places_from test hay (i + 1) m ≡ [] → Nowhere (Passes test hay) (i + 1) ((i + 1) + m)) →
          (if t then i ∷ places_from test hay (i + 1) m else places_from test hay (i + 1) m) ≡ [] → Nowhere (Passes test hay) i (i + suc m)
      go true p h f = absurd cc
      go false p h f = λ k low high passes. pick (h f) k low high passes (nat_le (i + 1) k) refl
        where
          pick : Nowhere (Passes test hay) (i + 1) ((i + 1) + m) → (k : ℕ) → i ≤ k → k < i + suc m → Passes test hay k →
              (u : Bool) → nat_le (i + 1) k ≡ u → ⊥
          pick none k low high passes true q = none k (grind (arith, nat_tests)) (omega (arith, high)) passes
          pick none k low high passes false q =
              let here : k ≡ i = grind (arith, nat_tests) in
              false≢true (sym p ∙ ap (λ x. test (slice_index hay x)) (sym here) ∙ passes)

  -- the first of some places
  pub first-state : (i j n : ℕ) (others : List ℕ) → i ≤ j → places_between test hay i j ≡ n ∷ others → IsFirstEnd test hay i j n others
  first-state i j n others within e =
      let end : i + (j - i) ≡ j = omega (arith, within) in
      let first : IsFirstEnd test hay i (i + (j - i)) n others = first-from i (j - i) n others e in
      rw end at first

  -- no place
  pub no-state : (i j : ℕ) → i ≤ j → places_between test hay i j ≡ [] → Nowhere (Passes test hay) i j
  no-state i j within e =
      let end : i + (j - i) ≡ j = omega (arith, within) in
      let none : Nowhere (Passes test hay) i (i + (j - i)) = first-none i (j - i) e in
      rw end at none

module _ (end : ℕ) (block : List ℕ) (start : ℕ) where
  -- a place of the block in what is left of it
  placed : (k : ℕ) → Passes (is_byte end) (drop start block) k → Passes (is_byte end) block (start + k)
  placed k h = ap (is_byte end) (sym (get_or-drop start block k 0)) ∙ h

  -- where there is no end of a line
  pub line-all : Nowhere (Passes (is_byte end) block) start (length block) → IsPartLine end (drop start block)
  line-all none = IsPartLine-all end (drop start block)
      (λ k low high passes. none (start + k) (omega arith) (omega (arith, length-drop start block, high)) (placed k passes))

  module _ (n : ℕ) (others : List ℕ) (first : IsFirstEnd (is_byte end) block start (length block) n others) where
    before : NoneBefore (Passes (is_byte end) (drop start block)) 0 (length (drop start block)) (n - start)
    before = record {
      low = omega arith;
      high = omega (arith, length-drop start block, first.none_before.low, first.none_before.high);
      before = λ k low high passes. first.none_before.before (start + k) (omega arith) (omega (arith, high)) (placed k passes);
    }

    -- up to the first end of a line
    pub line-front : IsPartLine end (take (n - start) (drop start block))
    line-front = IsPartLine-front end (drop start block) (n - start) before

    -- the line, its end and the rest
    pub line-split : drop start block ≡ (take (n - start) (drop start block) ++ end ∷ []) ++ drop (n + 1) block
    line-split =
        let sum : start + (n - start) ≡ n = omega (arith, first.none_before.low) in
        let here : Passes (is_byte end) (drop start block) (n - start) =
        ap (is_byte end) (get_or-drop start block (n - start) 0) ∙ ap (λ k. is_byte end (slice_index block k)) sum ∙ first.passes in
        let rest : drop 1 (drop (n - start) (drop start block)) ≡ drop (n + 1) block =
        ap (drop 1) (drop-drop (n - start) start block ∙ ap (λ k. drop k block) sum) ∙ drop-drop 1 n block in
        line_split end (drop start block) (n - start) before here
        ∙ ap (λ (l : List ℕ). (take (n - start) (drop start block) ++ end ∷ []) ++ l) rest
