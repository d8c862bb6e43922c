-- The one grouping of digits.
use Rattle.std.proofs.Common.{◌≡◌, ℕ, ◌<◌, ◌≤◌, Bool, true, false, List, [], ◌∷◌, ◌++◌, length, refl, sym, ap, ◌∙◌, arith}
use Rattle.std.proofs.Common.{inl, inr, All, append-nil, ne_eqb, length-append}
use Rattle.std.specs.Prelude.{◌==◌, if◌then◌else◌}
use Rattle.std.proofs.lemmas.Bool.{eq-eqb}
use Rattle.std.proofs.lemmas.Bool.Decides.{eqb_tells}
use Rattle.std.proofs.lemmas.List.Elements.{All-head, All-tail, All-nil, All-cons}
use Rattle.icu_decimal_options.specs.Grouping.{concatenated, IsGrouping, put_before, cut, digit_groups, is_grouped, secondary_size}
use Rattle.icu_decimal_options.specs.declared.options.GroupingStrategy.{GroupingStrategy}
use Rattle.icu_decimal_symbols.specs.declared.grouping_sizes.GroupingSizes.{GroupingSizes}
use Rattle.icu_decimal_options.proofs.Groupings.{is_full, concatenated-cut}

module _ (p s : ℕ) (hp : 0 < p) (hs : 0 < s) where
  -- the sizes of groups of which none is the first
  abbrev HaveSizes : List (List ℕ) → Type 0
  HaveSizes [] = Unit {0}
  HaveSizes (g ∷ []) = length g ≡ p
  HaveSizes (g ∷ h ∷ gs) = (length g ≡ s) × HaveSizes (h ∷ gs)

  -- and of groups with the first
  abbrev AreSized : List (List ℕ) → Type 0
  AreSized [] = Unit {0}
  AreSized (g ∷ []) = (0 < length g) × (length g ≤ p)
  AreSized (g ∷ h ∷ gs) = (0 < length g) × (length g ≤ s) × HaveSizes (h ∷ gs)

  AreSized-put_before : (x : ℕ) (gs : List (List ℕ)) → AreSized gs → AreSized (put_before p s x gs)
  AreSized-put_before x [] h = (omega arith, omega arith)
  AreSized-put_before x (g ∷ []) h = elim (eqb_tells (length g) p) [
    | inl t ↦ rw t.0 (omega arith, omega arith, t.1)
    | inr f ↦ rw f.0 (omega arith, omega (arith, h.1, f.1))
  ]
  AreSized-put_before x (g ∷ h' ∷ gs) h = elim (eqb_tells (length g) s) [
    | inl t ↦ rw t.0 (omega arith, omega arith, (t.1, h.2))
    | inr f ↦ rw f.0 (omega arith, omega (arith, h.1, f.1), h.2)
  ]

  AreSized-cut : (xs : List ℕ) → AreSized (cut p s xs)
  AreSized-cut [] = tt
  AreSized-cut (x ∷ xs) = AreSized-put_before x (cut p s xs) (AreSized-cut xs)

  -- the last of several groups, and those before it
  record Ending (gs : List (List ℕ)) : Type 0 where
    inner : List (List ℕ)
    last : List ℕ
    parts : gs ≡ inner ++ last ∷ []
    inner_sizes : All (λ g. length g ≡ s) inner
    last_size : length last ≡ p

  ending : (g : List ℕ) (gs : List (List ℕ)) → HaveSizes (g ∷ gs) → Ending (g ∷ gs)
  ending g [] h = record { inner = []; last = g; parts = refl; inner_sizes = All-nil (λ k. length k ≡ s); last_size = h }
  ending g (k ∷ gs) h =
      let e = ending k gs h.1 in
      record {
        inner = g ∷ e.inner;
        last = e.last;
        parts = ap (λ (l : List (List ℕ)). g ∷ l) e.parts;
        inner_sizes =
            All-cons (λ k. length k ≡ s) g e.inner h.0 e.inner_sizes;
        last_size = e.last_size;
      }

  -- what is cut is a grouping
  pub cut-is_grouping : (digits : List ℕ) → p < length digits → IsGrouping digits p s (cut p s digits)
  cut-is_grouping digits long = go (cut p s digits) (AreSized-cut digits) (concatenated-cut p s digits)
    where
      go : (gs : List (List ℕ)) → AreSized gs → concatenated gs ≡ digits → IsGrouping digits p s gs
      go [] h e = absurd (omega (arith, ap length e))
      go (g ∷ []) h e = absurd (omega (arith, h.1, ap length e, length-append g []))
      go (g ∷ k ∷ gs) h e =
          let rest = ending k gs h.2 in
          record {
            first = g;
            inner = rest.inner;
            last = rest.last;
            parts = ap (λ (l : List (List ℕ)). g ∷ l) rest.parts;
            whole = e;
            first_some = h.0;
            first_at_most = h.1;
            inner_sizes = rest.inner_sizes;
            last_size = rest.last_size;
          }

  -- a whole group in front of others
  before_full : (x : ℕ) (h : List ℕ) (hs : List (List ℕ)) → is_full p s (h ∷ hs) ≡ true → put_before p s x (h ∷ hs) ≡ (x ∷ []) ∷ h ∷ hs
  before_full x h [] e = rw e refl
  before_full x h (k ∷ hs) e = rw e refl

  cut-front : (x : ℕ) (g : List ℕ) (xs : List ℕ) (h : List ℕ) (hs : List (List ℕ)) → cut p s xs ≡ h ∷ hs → is_full p s (h ∷ hs) ≡ true →
      length (x ∷ g) ≤ s → cut p s ((x ∷ g) ++ xs) ≡ (x ∷ g) ∷ h ∷ hs
  cut-front x [] xs h hs e full small = ap (put_before p s x) e ∙ before_full x h hs full
  cut-front x (y ∷ g) xs h hs e full small =
      let rest = cut-front y g xs h hs e full (omega arith) in
      let room : (length (y ∷ g) == s) ≡ false = ne_eqb (length (y ∷ g)) s (λ k. omega arith) in
      ap (put_before p s x) rest ∙ rw room refl

  cut-group : (g xs : List ℕ) (gs : List (List ℕ)) → 0 < length g → length g ≤ s → 0 < length gs → cut p s xs ≡ gs →
      is_full p s gs ≡ true → cut p s (g ++ xs) ≡ g ∷ gs
  cut-group [] xs gs some small more e full = absurd (omega arith)
  cut-group (x ∷ g) xs [] some small more e full = absurd (omega arith)
  cut-group (x ∷ g) xs (h ∷ hs) some small more e full = cut-front x g xs h hs e full small

  cut-last : (g : List ℕ) → 0 < length g → length g ≤ p → cut p s g ≡ g ∷ []
  cut-last [] some small = absurd (omega arith)
  cut-last (x ∷ []) some small = refl
  cut-last (x ∷ y ∷ g) some small =
      let room : (length (y ∷ g) == p) ≡ false = ne_eqb (length (y ∷ g)) p (λ k. omega arith) in
      ap (put_before p s x) (cut-last (y ∷ g) (omega arith) (omega arith)) ∙ rw room refl

  inner_full : (inner : List (List ℕ)) (last : List ℕ) → All (λ g. length g ≡ s) inner → length last ≡ p →
      is_full p s (inner ++ last ∷ []) ≡ true
  inner_full [] last h k = eq-eqb (length last) p k
  inner_full (i ∷ []) last h k = eq-eqb (length i) s (All-head (λ g. length g ≡ s) i [] h)
  inner_full (i ∷ j ∷ inner) last h k = eq-eqb (length i) s (All-head (λ g. length g ≡ s) i (j ∷ inner) h)

  cut-inner : (inner : List (List ℕ)) (last : List ℕ) → All (λ g. length g ≡ s) inner → length last ≡ p →
      cut p s (concatenated (inner ++ last ∷ [])) ≡ inner ++ last ∷ []
  cut-inner [] last h k = ap (cut p s) (append-nil last) ∙ cut-last last (omega (arith, k)) (omega (arith, k))
  cut-inner (i ∷ inner) last h k =
      let size = All-head (λ g. length g ≡ s) i inner h in
      let sizes = All-tail (λ g. length g ≡ s) i inner h in
      cut-group i (concatenated (inner ++ last ∷ [])) (inner ++ last ∷ []) (omega (arith, size)) (omega (arith, size))
      (omega (arith, length-append inner (last ∷ []))) (cut-inner inner last sizes k) (inner_full inner last sizes k)

-- and the only one
pub grouping-unique : (p s : ℕ) → 0 < p → (digits : List ℕ) (groups : List (List ℕ)) → IsGrouping digits p s groups → groups ≡ cut p s digits
grouping-unique p s hp digits groups g =
    let hs : 0 < s = omega (arith, g.first_some, g.first_at_most) in
    let rest = g.inner ++ g.last ∷ [] in
    let whole : cut p s (g.first ++ concatenated rest) ≡ g.first ∷ rest =
    cut-group p s hp hs g.first (concatenated rest) rest g.first_some g.first_at_most (omega (arith, length-append g.inner (g.last ∷ [])))
    (cut-inner p s hp hs g.inner g.last g.inner_sizes g.last_size) (inner_full p s hp hs g.inner g.last g.inner_sizes g.last_size) in
    let digits_are : digits ≡ g.first ++ concatenated rest = sym g.whole ∙ ap concatenated g.parts in
    g.parts ∙ sym whole ∙ ap (cut p s) (sym digits_are)

-- the groups of a strategy are the digits too
pub concatenated-digit_groups : (digits : List ℕ) (sizes : GroupingSizes) (strategy : GroupingStrategy) →
    concatenated (digit_groups digits sizes strategy) ≡ digits
concatenated-digit_groups digits sizes strategy = go (is_grouped (length digits) sizes strategy)
  where
    go : (b : Bool) → concatenated (if b then cut sizes.primary (secondary_size sizes) digits else digits ∷ []) ≡ digits
    go true = concatenated-cut sizes.primary (secondary_size sizes) digits
    go false = append-nil digits
