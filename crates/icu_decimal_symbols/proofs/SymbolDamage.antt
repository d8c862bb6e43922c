-- Bytes without damage are those of symbols.
-- The five tests of `first_damage`, in order, have a field each in `IsSymbolBytes`, so `no_damage` and `undamaged` go test by test (`or_none` takes
-- one away). Two of the tests recur: `passing_none` and `none_passing` are inductions over the lengths, with the sum so far; `texts_none` and
-- `none_texts` are inductions over the texts, with the index so far. `are_bytes` and `may_be` go between the bytes and the texts in them, by
-- the list `texts_from`; that packing and reading are inverse is SymbolPacking's (`read_back`, `written`).
use Rattle.std.proofs.Common.{◌≡◌, ℕ, zero, suc, ◌+◌, ◌<◌, ◌≤◌, IsTrue, Bool, true, false, Option, Some, None, List, [], ◌∷◌, All}
use Rattle.std.proofs.Common.{length, take, map, refl, inl, inr, cond, eqb, ltb, arith, ap, sym, subst, ◌∙◌, zero-add}
use Rattle.std.specs.Prelude.{sum}
use Rattle.std.specs.List.{concat}
use Rattle.std.specs.Str.{is_utf8}
use Rattle.std.proofs.lemmas.List.{take_at}
use Rattle.std.proofs.lemmas.List.Sums.{sum_by-cons, sum-map}
use Rattle.std.proofs.lemmas.Bool.{eqb-true, ltb-false, cases_Bool, cases_eq, eq-eqb, le-ltb}
use Rattle.icu_provider.specs.NumberingSystem.{is_numbering_system}
use Rattle.icu_decimal_symbols.specs.Symbols.{SymbolTexts, texts_of, IsSymbolTexts}
use Rattle.icu_decimal_symbols.specs.SymbolBytes.{symbol_bytes, texts_in, text_start, text_at, IsSymbolBytes, IsReadAgain, first_damage, first_passing}
use Rattle.icu_decimal_symbols.specs.SymbolBytes.{first_no_text, or_else, wrong_length, wrong_system}
use Rattle.icu_decimal_symbols.proofs.SymbolPacking.{texts_from, lengths-texts, texts_packed, length-packed, written, read_back}

-- ---- the first damage

passing_none : (at before : ℕ) (ns : List ℕ) → first_passing at before ns ≡ None → before ≤ 255 → before + sum ns ≤ 255
passing_none at before [] e h = omega arith
passing_none at before (n ∷ ns) e h =
    elim (cases_Bool (ltb 255 (before + n))) [
      | inl t ↦ absurd (let f : first_passing at before (n ∷ ns) ≡ Some at = rw t refl in let g : Some at ≡ None = sym f ∙ e in cc)
      | inr t ↦ let f : first_passing at before (n ∷ ns) ≡ first_passing (at + 1) (before + n) ns = rw t refl in
          let i : before + n ≤ 255 = ltb-false _ _ t in
          omega (arith, passing_none (at + 1) (before + n) ns (sym f ∙ e) i, sum_by-cons (λ x. x) n ns)
    ]

none_passing : (at before : ℕ) (ns : List ℕ) → before + sum ns ≤ 255 → first_passing at before ns ≡ None
none_passing at before [] h = refl
none_passing at before (n ∷ ns) h =
    let more = sum_by-cons (λ x. x) n ns in
    let t : ltb 255 (before + n) ≡ false = le-ltb _ _ (omega arith) in
    rw t (none_passing (at + 1) (before + n) ns (omega arith))

texts_none : (bytes : List ℕ) (k n : ℕ) → first_no_text bytes k n ≡ None → (i : ℕ) → k ≤ i → i < k + n → IsTrue (is_utf8 (text_at bytes i))
texts_none bytes k zero e i low high = absurd (omega arith)
texts_none bytes k (suc n) e i low high =
    elim (cases_Bool (is_utf8 (text_at bytes k))) [
      | inr f ↦ absurd (let g : first_no_text bytes k (suc n) ≡ Some (text_start bytes k) = rw f refl in let h : Some (text_start bytes k) ≡ None =
          sym g ∙ e in cc)
      | inl t ↦ let g : first_no_text bytes k (suc n) ≡ first_no_text bytes (k + 1) n = rw t refl in
          elim (cases_eq k i) [
            | inl same ↦ let P : ℕ → Type 0 = λ j. IsTrue (is_utf8 (text_at bytes j)) in subst P same t
            | inr other ↦ texts_none bytes (k + 1) n (sym g ∙ e) i (omega arith) (omega arith)
          ]
    ]

none_texts : (bytes : List ℕ) (k n : ℕ) → ((i : ℕ) → i < k + n → IsTrue (is_utf8 (text_at bytes i))) → first_no_text bytes k n ≡ None
none_texts bytes k zero h = refl
none_texts bytes k (suc n) h = let t : is_utf8 (text_at bytes k) ≡ true = h k (omega arith) in rw t (none_texts bytes (k + 1) n (λ i lt. h i (omega arith)))

or_none : (a b : Option ℕ) → or_else a b ≡ None → (a ≡ None) × (b ≡ None)
or_none None b e = (refl, e)
or_none (Some x) b e = absurd cc

-- bytes in which no damage is found are those of symbols
pub no_damage : (bytes : List ℕ) → first_damage bytes ≡ None → IsSymbolBytes bytes
unfolding first_damage
no_damage bytes e =
    let within : 0 ≤ 255 = omega arith in
    elim (cases_Bool (ltb (length bytes) 7)) [
      | inl t ↦ absurd (let f : cond (ltb (length bytes) 7) (Some (length bytes))
          (or_else (first_passing 0 0 (take 7 bytes)) (or_else (wrong_length bytes) (or_else (first_no_text bytes 0 7) (wrong_system bytes))))
          ≡ Some (length bytes) = rw t refl in let g : Some (length bytes) ≡ None = sym f ∙ e in cc)
      | inr t ↦
          let f : cond (ltb (length bytes) 7) (Some (length bytes))
          (or_else (first_passing 0 0 (take 7 bytes)) (or_else (wrong_length bytes) (or_else (first_no_text bytes 0 7) (wrong_system bytes))))
          ≡ or_else (first_passing 0 0 (take 7 bytes)) (or_else (wrong_length bytes) (or_else (first_no_text bytes 0 7) (wrong_system bytes))) =
          rw t refl in
          let a = or_none _ _ (sym f ∙ e) in
          let b = or_none _ _ a.1 in
          let c = or_none _ _ b.1 in
          let low : sum (take 7 bytes) ≤ 255 = subst (λ n. n ≤ 255) (zero-add (sum (take 7 bytes))) (passing_none 0 0 (take 7 bytes) a.0 within) in
          record {
            counted = ltb-false _ _ t;
            short = low;
            whole = eqb-true _ _ (is_none_then _ _ b.0);
            texts = λ k h. texts_none bytes 0 7 c.0 k (omega arith) (omega arith);
            system = is_none_then _ _ c.1;
          }
    ]
  where
    is_none_then : (b : Bool) (byte : ℕ) → cond b None (Some byte) ≡ None → b ≡ true
    is_none_then true byte e = refl
    is_none_then false byte e = absurd cc

-- in the bytes of symbols no damage is found
pub undamaged : (bytes : List ℕ) → IsSymbolBytes bytes → first_damage bytes ≡ None
unfolding first_damage
undamaged bytes h =
    let a : ltb (length bytes) 7 ≡ false = le-ltb _ _ h.counted in
    let b : first_passing 0 0 (take 7 bytes) ≡ None = none_passing 0 0 (take 7 bytes) (omega (arith, h.short)) in
    let c : eqb (length bytes) (text_start bytes 7) ≡ true = eq-eqb _ _ h.whole in
    let d : first_no_text bytes 0 7 ≡ None = none_texts bytes 0 7 (λ i lt. h.texts i (omega arith)) in
    rw (a, b, c, d, h.system) refl

-- the bytes of symbols that may be
pub are_bytes : (s : SymbolTexts) → IsSymbolTexts s → IsSymbolBytes (symbol_bytes s)
are_bytes s h =
    let back : texts_in (symbol_bytes s) ≡ s = read_back s in
    let lens : take 7 (symbol_bytes s) ≡ map length (texts_of s) = take_at (map length (texts_of s)) (concat (texts_of s)) 7 refl in
    let texts : texts_from (symbol_bytes s) 0 7 ≡ texts_of s = texts_packed [] (texts_of s) refl in
    record {
      counted = omega (arith, length-packed s);
      short = omega (arith, h.short, ap sum lens, sum-map length (texts_of s));
      whole = length-packed s ∙ ap (λ (ns : List ℕ). 7 + sum ns) (sym lens);
      texts = λ k lt. rw (← zero-add k) (at_text (symbol_bytes s) 0 7
          (subst (λ (ts : List (List ℕ)). All (λ t. IsTrue (is_utf8 t)) ts) (sym texts) h.texts) k lt);
      system = let P : SymbolTexts → Type 0 = λ (x : SymbolTexts). IsTrue (is_numbering_system x.numsys) in subst P (sym back) h.system;
    }
  where
    at_text : (bytes : List ℕ) (k n : ℕ) → All (λ t. IsTrue (is_utf8 t)) (texts_from bytes k n) → (i : ℕ) → i < n →
        IsTrue (is_utf8 (text_at bytes (k + i)))
    at_text bytes k zero h i lt = absurd (omega arith)
    at_text bytes k (suc n) h zero lt = let e : k + 0 ≡ k = omega arith in rw e (h 0 [] (omega arith))
    at_text bytes k (suc n) h (suc i) lt = let e : (k + 1) + i ≡ k + suc i = omega arith in
        rw (← e) (at_text bytes (k + 1) n (λ j d l. h (suc j) d (omega arith)) i (omega arith))

-- the symbols in such bytes may be
pub may_be : (bytes : List ℕ) → IsSymbolBytes bytes → IsSymbolTexts (texts_in bytes)
may_be bytes h =
    let lengths : map length (texts_from bytes 0 7) ≡ take 7 bytes = lengths-texts bytes 0 7 (omega (arith, h.counted)) (omega (arith, h.whole)) in
    record {
      short = omega (arith, h.short, ap sum lengths, sum-map length (texts_of (texts_in bytes)));
      texts = λ k d lt. texts_at bytes 0 7 (λ i l. h.texts i (omega arith)) k d lt;
      system = h.system;
    }
  where
    texts_at : (bytes : List ℕ) (k n : ℕ) → ((i : ℕ) → i < k + n → IsTrue (is_utf8 (text_at bytes i))) →
        All (λ t. IsTrue (is_utf8 t)) (texts_from bytes k n)
    texts_at bytes k zero h i d lt = absurd (omega arith)
    texts_at bytes k (suc n) h zero d lt = h k (omega arith)
    texts_at bytes k (suc n) h (suc i) d lt = texts_at bytes (k + 1) n (λ j l. h j (omega arith)) i d (omega arith)

-- in bytes that are written of symbols no damage is found
pub read_only : (bytes : List ℕ) (s : SymbolTexts) → IsSymbolTexts s → bytes ≡ symbol_bytes s → first_damage bytes ≡ None
read_only bytes s h e = rw e (undamaged (symbol_bytes s) (are_bytes s h))

-- bytes in which no damage is found are written of the texts in them, which are symbols
pub is_found : (bytes : List ℕ) → first_damage bytes ≡ None → IsSymbolTexts (texts_in bytes) × (bytes ≡ symbol_bytes (texts_in bytes))
is_found bytes e = let h = no_damage bytes e in (may_be bytes h, sym (written bytes h.counted h.whole))

-- the texts of bytes that are written of them
pub is_only : (bytes : List ℕ) (s : SymbolTexts) → bytes ≡ symbol_bytes s → texts_in bytes ≡ s
is_only bytes s e = rw e (read_back s)

-- symbols are read from their bytes
pub is_read_again : (s : SymbolTexts) → IsSymbolTexts s → IsReadAgain s
is_read_again s h = (undamaged (symbol_bytes s) (are_bytes s h), read_back s)

-- what `SymbolsView::parse` needs
pub ruleset damage = (no_damage, read_only, is_found, is_only)

-- ---- symbols that hold bytes

-- bytes that hold symbols are those that are written of them
pub held_bytes : (bytes : List ℕ) (s : SymbolTexts) → IsSymbolBytes bytes → texts_in bytes ≡ s → bytes ≡ symbol_bytes s
held_bytes bytes s h e = sym (written bytes h.counted h.whole) ∙ ap (λ (x : SymbolTexts). symbol_bytes x) e

-- and those texts are symbols
pub held_texts : (bytes : List ℕ) (s : SymbolTexts) → IsSymbolBytes bytes → texts_in bytes ≡ s → IsSymbolTexts s
held_texts bytes s h e = subst (λ (x : SymbolTexts). IsSymbolTexts x) e (may_be bytes h)
