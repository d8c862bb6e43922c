-- A table means what a faithful map means.
-- The lemma `means` is an induction over the entries of the map that are left, with two entries in hand: `before`, the last one of the map, and `last`,
-- the last one that was kept, which `Stands` for it. The next entry is above the magnitude, so that no later one counts (`last_alone`); or it
-- is reached and repeats `before`, so that `last` stays; or it is reached and kept. `whole` goes through the skipped types before these.
-- A repeating entry's elements may differ from the kept ones by the pattern for exactly one. A significand that is exactly one stands at the
-- exponent's magnitude (`one_here`), which isn't above the kept type and so is below the repeating one: there it picks nothing (`alike_below`).
-- That a fault is absent is taken apart in EntryFaults; what is exactly n, and that magnitudes are unique, are laws of the crates below.
use Rattle.std.proofs.Common.{◌≡◌, ℕ, suc, ◌+◌, ◌*◌, ◌^◌, ◌<◌, ◌≤◌, ◌⊎◌, ⊎_elim, inl, inr, Bool, true, false, refl}
use Rattle.std.proofs.Common.{arith, sym, ap, subst, ◌∙◌, List, [], ◌∷◌, Option, Some, None, nat_le, leb-true, leb-false, le-leb, All, AllPairs}
use Rattle.std.proofs.Common.{slice_get, cond, pos}
use Rattle.std.proofs.lemmas.List.Elements.{All-head, All-tail}
use Rattle.std.specs.Option.{IfSome, option_or, unwrap_or}
use Rattle.std.proofs.lemmas.Bool.{cases_Bool, lt-leb}
use Rattle.fixed_decimal.specs.Laws.{MagnitudeIsUnique}
use Rattle.fixed_decimal.specs.Size.{finest, size, magnitude_place, ten_to}
use Rattle.fixed_decimal.specs.Unsigned.{Unsigned, IsUnsigned}
use Rattle.fixed_decimal.proofs.Weights.{ten_more, ten_pos}
use Rattle.icu_plurals.specs.Elements.{without_explicit_one, selected, is_exactly, explicit_value, category_value}
use Rattle.icu_plurals.specs.Laws.{ExactlyIsTheNumber}
use Rattle.icu_plurals.specs.Operands.{Operands, operands_of}
use Rattle.icu_pattern.specs.Patterns.{PatternText, placeholder_alone}
use Rattle.icu_plurals.specs.declared.category.PluralCategory.{PluralCategory}
use Rattle.icu_plurals.specs.declared.category.PluralCategory.TheVariants.{Zero, One, Two, Few, Many, Other}
use Rattle.icu_decimal_data.specs.CompactTable.{PatternElements, TableEntry, type_place, entry_for, exponent_of}
use Rattle.icu_decimal_data.specs.Kept.{is_zero_magnitude, kept, skipped, unskipped, repeats, changes}
use Rattle.icu_decimal_data.specs.CompactFaults.{entry_fault, first_entry_fault}
use Rattle.icu_decimal_data.specs.Faithful.{IsPassThrough, RepeatsKeepExponent, pattern_for, KeptMeansFull}
use Rattle.icu_decimal_data.proofs.EntryFaults.{none_or, sound_entry, no_entry_fault}
use Rattle.icu_decimal_data.proofs.SameEntries.{the_same}

-- The first entry serves a number at this magnitude as the second does.
record Alike (m : ℕ) (a b : Option TableEntry) : Type 0 where
  exponent : exponent_of a ≡ exponent_of b
  picks : (s : Unsigned) (category : PluralCategory) → IsUnsigned s → magnitude_place (size s) + exponent_of a ≡ m
      → pattern_for (operands_of s 0) category a ≡ pattern_for (operands_of s 0) category b

alike_itself : (m : ℕ) (a : Option TableEntry) → Alike m a a
alike_itself m a = record { exponent = refl; picks = λ s category is at. refl }

alike_along : (m : ℕ) (a b c d : Option TableEntry) → a ≡ c → b ≡ d → Alike m c d → Alike m a b
alike_along m a b c d p q h = rw (p, q) h

-- a number that isn't exactly one picks the same where there is no pattern for exactly one
without_one : (o : Operands) (category : PluralCategory) (e : PatternElements) → is_exactly 1 o ≡ false →
    selected e o category ≡ selected (without_explicit_one e) o category
without_one o category e h = by_value (same_explicit (is_exactly 0 o)) (same_category category)
  where
    same_explicit : (z : Bool) → cond z e.explicit_zero (cond (is_exactly 1 o) e.explicit_one None)
        ≡ cond z e.explicit_zero (cond (is_exactly 1 o) None None)
    same_explicit true = refl
    same_explicit false = rw h refl

    same_category : (c : PluralCategory) → category_value e c ≡ category_value (without_explicit_one e) c
    same_category Zero = refl
    same_category One = refl
    same_category Two = refl
    same_category Few = refl
    same_category Many = refl
    same_category Other = refl

    by_value : {a b c d : Option PatternText} → a ≡ b → c ≡ d → unwrap_or a (unwrap_or c e.other) ≡ unwrap_or b (unwrap_or d e.other)
    by_value p q = λ i. unwrap_or (p i) (unwrap_or (q i) e.other)

-- a number that is exactly one stands at the place of power 0
one_here : ExactlyIsTheNumber → MagnitudeIsUnique → (s : Unsigned) → IsUnsigned s → is_exactly 1 (operands_of s 0) ≡ true →
    magnitude_place (size s) ≡ finest
one_here exact unique s is h =
    let whole : size s ≡ 1 * ten_to (pos 0) = exact s 1 is h in
    let here : size s ≡ 10 ^ finest = whole ∙ at_power finest in
    rw here (unique (10 ^ finest) finest (omega arith) (below finest))
  where
    at_power : (p : ℕ) → 1 * 10 ^ (p + 0) ≡ 10 ^ p
    at_power p = ap (λ k. 1 * 10 ^ k) (plus_none p) ∙ one_times (10 ^ p)
      where
        plus_none : (p : ℕ) → p + 0 ≡ p
        plus_none p = omega arith

        one_times : (n : ℕ) → 1 * n ≡ n
        one_times n = omega arith

    below : (p : ℕ) → 10 ^ p < 10 ^ (p + 1)
    below p = omega (arith, ten_more p, ten_pos p)

-- The last kept entry stands for the one just before: it is that one, or its type is below, its exponent is
-- the same and so are its elements but for the explicit one.
record StandsBelow (last before : TableEntry) : Type 0 where
  below : last.log10_type < before.log10_type
  exponent : before.exponent ≡ last.exponent
  elements : before.elements ≡ without_explicit_one last.elements

abbrev Stands : TableEntry → TableEntry → Type 0
Stands last before = (before ≡ last) ⊎ StandsBelow last before

elements_of : (last before : TableEntry) → Stands last before → without_explicit_one before.elements ≡ without_explicit_one last.elements
elements_of last before h = ⊎_elim (λ (e : before ≡ last). rw e refl) (λ (s : StandsBelow last before). rw s.elements refl) h

exponents_of : (last before : TableEntry) → Stands last before → before.exponent ≡ last.exponent
exponents_of last before h = ⊎_elim (λ (e : before ≡ last). rw e refl) (λ (s : StandsBelow last before). s.exponent) h

types_of : (last before : TableEntry) → Stands last before → last.log10_type ≤ before.log10_type
types_of last before h = ⊎_elim (λ (e : before ≡ last). rw e (omega arith)) (λ (s : StandsBelow last before). omega arith) h

-- What is known of numbers: one that is exactly n by its operands is n, and a size has one magnitude.
module _ (exact : ExactlyIsTheNumber) (unique : MagnitudeIsUnique) where
  alike_below : (m : ℕ) (last before : TableEntry) → last.exponent ≤ last.log10_type → type_place before ≤ m → StandsBelow last before →
      Alike m (Some last) (Some before)
  alike_below m last before small on s = record {
    exponent = sym s.exponent;
    picks = λ number category is at.
        ⊎_elim
        (λ (one : is_exactly 1 (operands_of number 0) ≡ true).
        let here = one_here exact unique number is one in
        let low = s.below in
        absurd (omega arith))
        (λ (many : is_exactly 1 (operands_of number 0) ≡ false).
        without_one (operands_of number 0) category last.elements many
        ∙ ap (λ (x : PatternElements). selected x (operands_of number 0) category) (sym s.elements))
        (cases_Bool (is_exactly 1 (operands_of number 0)));
  }

  alike_stands : (m : ℕ) (last before : TableEntry) → last.exponent ≤ last.log10_type → type_place before ≤ m → Stands last before →
      Alike m (Some last) (Some before)
  alike_stands m last before small on h =
      ⊎_elim (λ (e : before ≡ last). rw e (alike_itself m (Some last))) (λ (s : StandsBelow last before). alike_below m last before small on s) h

  -- ---- neighbours, by recursion

  abbrev Rises : ℕ → List TableEntry → Type 0
  Rises low [] = Unit {0}
  Rises low (e ∷ es) = (low < e.log10_type) × Rises e.log10_type es

  abbrev Keep : TableEntry → List TableEntry → Type 0
  Keep before [] = Unit {0}
  Keep before (e ∷ es) = (repeats before e ≡ true → e.exponent ≡ before.exponent) × Keep e es

  abbrev Small : List TableEntry → Type 0
  Small [] = Unit {0}
  Small (e ∷ es) = (e.exponent ≤ e.log10_type) × Small es

  abbrev Above : ℕ → List TableEntry → Type 0
  Above m [] = Unit {0}
  Above m (e ∷ es) = (m < type_place e) × Above m es

  rises : (e : TableEntry) (es : List TableEntry) → AllPairs (λ (a b : TableEntry). a.log10_type < b.log10_type) (e ∷ es) → Rises e.log10_type es
  rises e [] h = tt
  rises e (f ∷ fs) h = (h 0 1 e (omega arith) (omega arith), rises f fs (λ i j d l g. h (suc i) (suc j) d (omega arith) (omega arith)))

  keeps : (e : TableEntry) (es : List TableEntry) → RepeatsKeepExponent (e ∷ es) → Keep e es
  keeps e [] h = tt
  keeps e (f ∷ fs) h = (
    λ r. h 0 e f refl refl r,
    keeps f fs
        (λ i a b p q r. h (suc i) a b p (subst (λ n. slice_get (e ∷ f ∷ fs) n ≡ Some b) (further i) q) r),
  )
    where
      further : (i : ℕ) → suc (i + 1) ≡ suc i + 1
      further i = omega arith

  small : (es : List TableEntry) → first_entry_fault es ≡ None → Small es
  small [] h = tt
  small (e ∷ es) h =
      let both = none_or (entry_fault e) (first_entry_fault es) h in
      ((sound_entry e both.0).0, small es both.1)

  above : (m low : ℕ) (es : List TableEntry) → m < low + finest → Rises low es → Above m es
  above m low [] h r = tt
  above m low (e ∷ es) h r = let up = r.0 in (omega arith, above m e.log10_type es (omega arith) r.1)

  above_changes : (m : ℕ) (before : TableEntry) (es : List TableEntry) → Above m es → Above m (changes before es)
  above_changes m before [] h = tt
  above_changes m before (e ∷ es) h =
      ⊎_elim
      (λ (r : repeats before e ≡ true). rw r (above_changes m e es h.1))
      (λ (r : repeats before e ≡ false). rw r (h.0, above_changes m e es h.1))
      (cases_Bool (repeats before e))

  none_above : (m : ℕ) (es : List TableEntry) → Above m es → entry_for es m ≡ None
  unfolding entry_for
  none_above m [] h = refl
  none_above m (e ∷ es) h = rw (none_above m es h.1, lt-leb (type_place e) m h.0) refl

  on_or_above : (m : ℕ) (e : TableEntry) → (type_place e ≤ m) ⊎ (m < type_place e)
  on_or_above m e =
      ⊎_elim (λ (h : nat_le (type_place e) m ≡ true). inl (leb-true (type_place e) m h))
      (λ (h : nat_le (type_place e) m ≡ false). inr (leb-false (type_place e) m h)) (cases_Bool (nat_le (type_place e) m))

  or_some : {T : Type 0} (a : Option T) (x : T) (b : Option T) → option_or (option_or a (Some x)) b ≡ option_or a (Some x)
  or_some None x b = refl
  or_some (Some y) x b = refl

  -- an entry under one that is reached says nothing
  later : (m : ℕ) (last e : TableEntry) (es : List TableEntry) → type_place e ≤ m → entry_for (last ∷ e ∷ es) m ≡ entry_for (e ∷ es) m
  unfolding entry_for
  later m last e es h = rw (le-leb (type_place e) m h) (or_some (entry_for es m) e (cond (nat_le (type_place last) m) (Some last) None))

  last_alone : (m : ℕ) (last : TableEntry) (es : List TableEntry) → type_place last ≤ m → Above m es → entry_for (last ∷ es) m ≡ Some last
  unfolding entry_for
  last_alone m last es h up = rw (none_above m es up, le-leb (type_place last) m h) refl

  means : (m : ℕ) (last before : TableEntry) (es : List TableEntry) → Stands last before → last.exponent ≤ last.log10_type → Small (changes before es)
      → Rises before.log10_type es → Keep before es → type_place before ≤ m →
      Alike m (entry_for (last ∷ changes before es) m) (entry_for (before ∷ es) m)
  means m last before [] s c2 cs up keep on =
      alike_along m _ _ (Some last) (Some before) (last_alone m last [] (let t = types_of last before s in omega arith) tt) (last_alone m before [] on tt)
      (alike_stands m last before c2 on s)
  means m last before (e ∷ es) s c2 cs up keep on =
      let t = types_of last before s in
      let rising = up.0 in
      ⊎_elim
      (λ (reached : type_place e ≤ m).
      ⊎_elim
      (λ (r : repeats before e ≡ true).
      let cs' : Small (changes e es) = rw r at cs in
      let next : Stands last e = inr (record {
        below = omega arith;
        exponent = keep.0 r ∙ exponents_of last before s;
        elements = sym (the_same (without_explicit_one before.elements) e.elements r) ∙ elements_of last before s;
      }) in
      rw r (alike_along m _ _ _ _ refl (later m before e es reached) (means m last e es next c2 cs' up.1 keep.1 reached)))
      (λ (r : repeats before e ≡ false).
      let cs' : (e.exponent ≤ e.log10_type) × Small (changes e es) = rw r at cs in
      rw r (alike_along m _ _ _ _ (later m last e (changes e es) reached) (later m before e es reached)
      (means m e e es (inl refl) cs'.0 cs'.1 up.1 keep.1 reached)))
      (cases_Bool (repeats before e)))
      (λ (over : m < type_place e).
      let past : Above m (e ∷ es) = (over, above m e.log10_type es over up.1) in
      alike_along m _ _ (Some last) (Some before) (last_alone m last (changes before (e ∷ es)) (omega arith) (above_changes m before (e ∷ es) past))
      (last_alone m before (e ∷ es) on past) (alike_stands m last before c2 on s))
      (on_or_above m e)

  -- ---- skipped types

  abbrev IsAlone : Option PatternText → Type 0
  IsAlone s = IfSome s (λ p. p ≡ placeholder_alone)

  unwrap_alone : (s : Option PatternText) (p : PatternText) → IsAlone s → p ≡ placeholder_alone → unwrap_or s p ≡ placeholder_alone
  unwrap_alone None p h e = e
  unwrap_alone (Some q) p h e = h

  alone : (o : Operands) (category : PluralCategory) (e : TableEntry) → IsPassThrough e → pattern_for o category (Some e) ≡ placeholder_alone
  alone o category e h =
      let other : e.elements.other ≡ placeholder_alone = h.alone 7 None (omega arith) in
      unwrap_alone (explicit_value e.elements o) _ (explicit (is_exactly 0 o) (is_exactly 1 o))
      (unwrap_alone (category_value e.elements category) _ (own category) other)
    where
      explicit : (z n : Bool) → IsAlone (cond z e.elements.explicit_zero (cond n e.elements.explicit_one None))
      explicit true n = h.alone 0 None (omega arith)
      explicit false true = h.alone 1 None (omega arith)
      explicit false false = tt

      own : (c : PluralCategory) → IsAlone (category_value e.elements c)
      own Zero = h.alone 2 None (omega arith)
      own One = h.alone 3 None (omega arith)
      own Two = h.alone 4 None (omega arith)
      own Few = h.alone 5 None (omega arith)
      own Many = h.alone 6 None (omega arith)
      own Other = tt

  over_skipped : (m : ℕ) (a b : Option TableEntry) (e : TableEntry) (c : Bool) → IsPassThrough e → Alike m a b →
      Alike m a (option_or b (cond c (Some e) None))
  over_skipped m a (Some f) e c h s = s
  over_skipped m a None e false h s = s
  over_skipped m a None e true h s = record {
    exponent = s.exponent ∙ sym h.no_exponent;
    picks = λ number category is at. s.picks number category is at ∙ sym (alone (operands_of number 0) category e h);
  }

  whole : (zero_magnitude : Option PatternElements) (es : List TableEntry) (m : ℕ) → AllPairs (λ (a b : TableEntry). a.log10_type < b.log10_type) es →
      Small (kept zero_magnitude es)
      → RepeatsKeepExponent (unskipped zero_magnitude es) → All IsPassThrough (skipped zero_magnitude es)
      → Alike m (entry_for (kept zero_magnitude es) m) (entry_for es m)
  unfolding entry_for
  whole zero_magnitude [] m up c2 keep none = alike_itself m None
  whole zero_magnitude (e ∷ es) m up c2 keep none =
      ⊎_elim
      (λ (z : is_zero_magnitude zero_magnitude e.elements ≡ true).
      let c2' : Small (kept zero_magnitude es) = rw z at c2 in
      let keep' : RepeatsKeepExponent (unskipped zero_magnitude es) = rw z at keep in
      let none' : All IsPassThrough (e ∷ skipped zero_magnitude es) = rw z at none in
      let rest = whole zero_magnitude es m (λ i j d l g. up (suc i) (suc j) d (omega arith) (omega arith)) c2' keep'
      (All-tail IsPassThrough e (skipped zero_magnitude es) none') in
      rw z (over_skipped m _ (entry_for es m) e (nat_le (type_place e) m) (All-head IsPassThrough e (skipped zero_magnitude es) none') rest))
      (λ (z : is_zero_magnitude zero_magnitude e.elements ≡ false).
      let c2' : (e.exponent ≤ e.log10_type) × Small (changes e es) = rw z at c2 in
      let keep' : RepeatsKeepExponent (e ∷ es) = rw z at keep in
      rw z (first e es m (rises e es up) c2'.0 c2'.1 (keeps e es keep')))
      (cases_Bool (is_zero_magnitude zero_magnitude e.elements))
    where
      first : (e : TableEntry) (es : List TableEntry) (m : ℕ) → Rises e.log10_type es → e.exponent ≤ e.log10_type → Small (changes e es) →
          Keep e es → Alike m (entry_for (e ∷ changes e es) m) (entry_for (e ∷ es) m)
      first e es m up c2 cs keep =
          ⊎_elim
          (λ (on : type_place e ≤ m). means m e e es (inl refl) c2 cs up keep on)
          (λ (over : m < type_place e).
          let past = above m e.log10_type es over up in
          alike_along m _ _ None None (none_above m (e ∷ changes e es) (over, above_changes m e es past)) (none_above m (e ∷ es) (over, past))
          (alike_itself m None))
          (on_or_above m e)

  -- what is kept means what the whole map means
  pub kept_means_full : KeptMeansFull
  kept_means_full zero_magnitude es up none faithful m =
      let c2 = small (kept zero_magnitude es) (no_entry_fault zero_magnitude es none).1 in
      let alike = whole zero_magnitude es m up c2 faithful.dropped_repeat faithful.skipped_alone in
      (alike.exponent, alike.picks)
