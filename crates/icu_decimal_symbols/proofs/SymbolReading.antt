-- Reading symbols in their bytes, and writing them.
use Rattle.std.proofs.Common.{◌≡◌, ℕ, suc, ◌+◌, ◌-◌, ◌<◌, ◌≤◌, true, false, Bor, List, [], ◌∷◌, ◌++◌, length, take, drop}
use Rattle.std.proofs.Common.{map, slice_index, get_or, Option, Some, None, ltb, refl, arith, ap, sym, ◌∙◌}
use Rattle.std.specs.Str.{is_utf8}
use Rattle.std.proofs.lemmas.Str.{IsUtf8-from_is_utf8, is_utf8-from_IsUtf8}
use Rattle.std.proofs.lemmas.List.{drop_more, get_or-take, length-take, drop_all, map_more, append-nil}
use Rattle.std.specs.List.{concat}
use Rattle.std.proofs.lemmas.List.Folds.{concat-append}
use Rattle.std.proofs.lemmas.Bool.{lt-ltb, le-ltb}
use Rattle.icu_decimal_symbols.specs.SymbolBytes.{text_start, text_at, first_passing, first_no_text}
use Rattle.icu_decimal_symbols.proofs.TextStarts.{sum_more, start_more, start_mono}

-- behind a text that is UTF-8 the search for one that isn't goes on
pub no_text_goes_on : (bytes : List ℕ) (i : ℕ) (r : Option ℕ) → i < 7 → is_utf8 (text_at bytes i) ≡ true → first_no_text bytes i (7 - i) ≡ r →
    first_no_text bytes (i + 1) (7 - (i + 1)) ≡ r
no_text_goes_on bytes i r lt t h =
    let e : 7 - i ≡ suc (7 - (i + 1)) = omega arith in
    let one : first_no_text bytes i (suc (7 - (i + 1))) ≡ first_no_text bytes (i + 1) (7 - (i + 1)) = rw t refl in
    sym one ∙ ap (first_no_text bytes i) (sym e) ∙ h

-- a text that isn't UTF-8 ends the search at its first byte
pub no_text_ends : (bytes : List ℕ) (i : ℕ) (r : Option ℕ) → i < 7 → is_utf8 (text_at bytes i) ≡ false → first_no_text bytes i (7 - i) ≡ r →
    r ≡ Some (text_start bytes i)
no_text_ends bytes i r lt t h =
    let e : 7 - i ≡ suc (7 - (i + 1)) = omega arith in
    let one : first_no_text bytes i (suc (7 - (i + 1))) ≡ Some (text_start bytes i) = rw t refl in
    sym h ∙ ap (first_no_text bytes i) e ∙ one

-- behind the last text the search has found none
pub no_text_done : (bytes : List ℕ) (i : ℕ) (r : Option ℕ) → 7 ≤ i → first_no_text bytes i (7 - i) ≡ r → r ≡ None
no_text_done bytes i r le h = let e : 7 - i ≡ 0 = omega arith in sym h ∙ ap (first_no_text bytes i) e

module _ (bytes : List ℕ) (i before : ℕ) (r : Option ℕ) (lt : i < 7) (long : 7 ≤ length bytes)
    (h : first_passing i before (drop i (take 7 bytes)) ≡ r) where
  at_length : drop i (take 7 bytes) ≡ slice_index bytes i ∷ drop (i + 1) (take 7 bytes)
  at_length = drop_more (take 7 bytes) i 0 (omega (arith, length-take 7 bytes))
      ∙ ap (λ (n : ℕ). n ∷ drop (i + 1) (take 7 bytes)) (get_or-take 7 bytes i 0 lt)

  -- a text that passes, and then the later ones
  pub passing_goes_on : before + slice_index bytes i ≤ 255 → first_passing (i + 1) (before + slice_index bytes i) (drop (i + 1) (take 7 bytes)) ≡ r
  passing_goes_on low =
      let t : ltb 255 (before + slice_index bytes i) ≡ false = le-ltb _ _ low in
      let one : first_passing i before (slice_index bytes i ∷ drop (i + 1) (take 7 bytes))
      ≡ first_passing (i + 1) (before + slice_index bytes i) (drop (i + 1) (take 7 bytes)) = rw t refl in
      sym one ∙ ap (first_passing i before) (sym at_length) ∙ h

  pub passing_ends : 255 < before + slice_index bytes i → r ≡ Some i
  passing_ends high =
      let t : ltb 255 (before + slice_index bytes i) ≡ true = lt-ltb _ _ high in
      let one : first_passing i before (slice_index bytes i ∷ drop (i + 1) (take 7 bytes)) ≡ Some i = rw t refl in
      sym h ∙ ap (first_passing i before) at_length ∙ one

-- behind the last length no sum is above 255
pub passing_done : (bytes : List ℕ) (i before : ℕ) (r : Option ℕ) → 7 ≤ i → first_passing i before (drop i (take 7 bytes)) ≡ r → r ≡ None
passing_done bytes i before r le h = sym h ∙ ap (first_passing i before) (drop_all i (take 7 bytes) (omega (arith, length-take 7 bytes)))

-- ---- texts behind references

concat_push : (xs : List (List ℕ)) (y : List ℕ) → concat (xs ++ y ∷ []) ≡ concat xs ++ y
concat_push xs y = concat-append xs (y ∷ []) ∙ ap (λ (r : List ℕ). concat xs ++ r) (append-nil y)

-- one more text behind the others
pub concat_more : (xs : List (Bor (List ℕ))) (i : ℕ) (d : Bor (List ℕ)) → i < length xs →
    concat (map (λ t. t.now) (take (i + 1) xs)) ≡ concat (map (λ t. t.now) (take i xs)) ++ (get_or xs i d).now
concat_more xs i d lt = ap concat (map_more (λ (t : Bor (List ℕ)). t.now) xs i d lt)
    ∙ concat_push (map (λ (t : Bor (List ℕ)). t.now) (take i xs)) (get_or xs i d).now

-- the steps of the loops over the texts
pub ruleset reading = (
  IsUtf8-from_is_utf8,
  is_utf8-from_IsUtf8,
  start_more,
  start_mono,
  sum_more,
  no_text_goes_on,
  no_text_ends,
  no_text_done,
  passing_goes_on,
  passing_ends,
  passing_done,
  concat_more,
)
