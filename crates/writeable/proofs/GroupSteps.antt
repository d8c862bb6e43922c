-- Groups taken from the front.
use Rattle.std.proofs.Common.{◌≡◌, ◌⊎◌, ℕ, ◌+◌, ◌-◌, ◌*◌, ◌/◌, ◌%◌, ◌<◌, ◌≤◌, true, List, [], ◌∷◌, ◌++◌}
use Rattle.std.proofs.Common.{length, map, take, drop, refl, sym, ap, ◌∙◌, arith, inl, inr}
use Rattle.std.proofs.lemmas.List.{take-append-drop, length-take-le, length-drop, take_all, drop_all}
use Rattle.std.proofs.lemmas.Bool.Decides.{eqb_tells}
use Rattle.std.proofs.lemmas.Nat.{mod_below, div-add-mod'}
use Rattle.std.proofs.lemmas.Bool.{cases_lt}
use Rattle.std.proofs.Math.Nat.{mul-mod_left, mod-eq_of_lt, add-mod_right}
use Rattle.writeable.specs.Groups.{cut, put_before, joined, joined_after}
use Rattle.writeable.specs.Counted.{IsGap, IsDue, next_size}
use Rattle.writeable.proofs.Groupings.{is_full, is_full-FirstGroup, FirstGroup-cut}

-- before groups of which the first is full, a digit begins a group of its own
put_before-full : {A : Type 0} (p s : ℕ) (x : A) (gs : List (List A)) → is_full p s gs ≡ true → put_before p s x gs ≡ (x ∷ []) ∷ gs
put_before-full p s x [] e = refl
put_before-full p s x (g ∷ []) e = rw e refl
put_before-full p s x (g ∷ h ∷ gs) e = rw e refl

-- before a group that isn't full, a digit joins this group
put_before-short : {A : Type 0} (p s : ℕ) (x : A) (h : List A) (gs : List (List A)) → is_full p s gs ≡ true → length h < s →
    put_before p s x (h ∷ gs) ≡ (x ∷ h) ∷ gs
put_before-short p s x h [] full short = cc
put_before-short p s x h (g ∷ gs) full short = elim (eqb_tells (length h) s) [ inl t ↦ absurd (omega (arith, t.1)) | inr f ↦ rw f.0 refl ]

-- a front of at most the secondary size is a group where a group ends behind it
pub cut-append : (p s : ℕ) (g rest : List ℕ) → 0 < p → 0 < s → 0 < length g → length g ≤ s → IsDue p s (length rest) →
    cut p s (g ++ rest) ≡ g ∷ cut p s rest
cut-append p s [] rest hp hs some few due = absurd (omega arith)
cut-append p s (x ∷ []) rest hp hs some few due =
    put_before-full p s x (cut p s rest) ((is_full-FirstGroup p s (length rest) (cut p s rest) hp hs (FirstGroup-cut p s rest hp hs)).1 due)
cut-append p s (x ∷ y ∷ g) rest hp hs some few due =
    let full = (is_full-FirstGroup p s (length rest) (cut p s rest) hp hs (FirstGroup-cut p s rest hp hs)).1 due in
    ap (put_before p s x) (cut-append p s (y ∷ g) rest hp hs (omega arith) (omega arith) due)
    ∙ put_before-short p s x (y ∷ g) (cut p s rest) full (omega arith)

-- a list of at most the primary size is one group
cut-one : (p s : ℕ) (ds : List ℕ) → 0 < length ds → length ds ≤ p → cut p s ds ≡ ds ∷ []
cut-one p s [] some few = absurd (omega arith)
cut-one p s (x ∷ []) some few = refl
cut-one p s (x ∷ y ∷ ds) some few =
    ap (put_before p s x) (cut-one p s (y ∷ ds) (omega arith) (omega arith))
    ∙ (elim (eqb_tells (length (y ∷ ds)) p) [ inl t ↦ absurd (omega (arith, t.1)) | inr f ↦ rw f.0 refl ])

module _ (p s : ℕ) (ds : List ℕ) (n : ℕ) (hp : 0 < p) (hs : 0 < s) where
  front_of : cut p s (take n ds ++ drop n ds) ≡ take n ds ∷ cut p s (drop n ds) → cut p s ds ≡ take n ds ∷ cut p s (drop n ds)
  front_of e = ap (cut p s) (sym (take-append-drop n ds)) ∙ e

  -- the first group of more digits than the primary size, and what is left after it
  pub first_cut : p < length ds → IsGap p s (length ds) n →
      (cut p s ds ≡ take n ds ∷ cut p s (drop n ds)) × IsDue p s (length (drop n ds)) × (n ≤ length ds)
  first_cut more gap =
      let size : n ≡ (length ds - p - 1) % s + 1 = gap.1 more in
      let small = mod_below (length ds - p - 1) s hs in
      let within : n ≤ length ds = omega arith in
      let left : length (drop n ds) ≡ length ds - n = length-drop n ds in
      let due : IsDue p s (length (drop n ds)) = rw left (omega arith, due_after (length ds - p - 1) (length ds - n - p) (omega arith)) in (
        front_of (cut-append p s (take n ds) (drop n ds) hp hs (omega (arith, length-take-le n ds within)) (omega (arith, length-take-le n ds within)) due),
        due,
        within,
      )
    where
      due_after : (k j : ℕ) → j ≡ k - k % s → j % s ≡ 0
      due_after k j e =
          let times : j ≡ k / s * s = omega (arith, div-add-mod' k s) in
          rw times (mul-mod_left (k / s) s)

  -- the next group, where a group ends before all that is left, and what is left after it
  pub next_cut : 0 < length ds → IsDue p s (length ds) → n ≡ next_size p s (length ds) →
      (cut p s ds ≡ take n ds ∷ cut p s (drop n ds)) × ((drop n ds ≡ []) ⊎ IsDue p s (length (drop n ds))) × (n ≤ length ds)
  next_cut some due size = elim (eqb_tells (length ds) p) [
    | inl t ↦
        let all : n ≡ length ds = size ∙ rw t.0 (sym t.1) in
        let whole : take n ds ≡ ds = take_all n ds (omega arith) in
        let none : drop n ds ≡ [] = drop_all n ds (omega arith) in
        (rw (whole, none) (cut-one p s ds some (omega (arith, t.1))), inl none, omega arith)
    | inr f ↦
        let small : n ≡ s = size ∙ rw f.0 refl in
        let far : s ≤ length ds - p = whole_step (length ds - p) (omega (arith, due.0, f.1)) due.1 in
        let within : n ≤ length ds = omega arith in
        let left : length (drop n ds) ≡ length ds - n = length-drop n ds in
        let rest : (length ds - n - p) % s ≡ 0 = one_less (length ds - p) (length ds - n - p) (omega arith) due.1 in
        let due' : IsDue p s (length (drop n ds)) = rw left (omega arith, rest) in (
          front_of (cut-append p s (take n ds) (drop n ds) hp hs (omega (arith, length-take-le n ds within)) (omega (arith, length-take-le n ds within)) due'),
          inr due',
          within,
        )
  ]
    where
      -- a multiple of s that isn't 0 is at least s
      whole_step : (k : ℕ) → 0 < k → k % s ≡ 0 → s ≤ k
      whole_step k h e = elim (cases_lt k s) [ inl below ↦ absurd (omega (arith, mod-eq_of_lt below)) | inr above ↦ above ]

      one_less : (k j : ℕ) → k ≡ j + s → k % s ≡ 0 → j % s ≡ 0
      one_less k j e z = sym (add-mod_right j s) ∙ rw e at z

-- the groups with separators begin with the first group
pub joined-front : {B : Type 0} (f : List ℕ → List B) (separator : List B) (p s : ℕ) (ds g rest : List ℕ) → cut p s ds ≡ g ∷ cut p s rest →
    joined separator (map f (cut p s ds)) ≡ f g ++ joined_after separator (map f (cut p s rest))
joined-front f separator p s ds g rest e = rw e refl

-- behind a group stand a separator, the next group, and the rest
pub joined_after-next : {B : Type 0} (f : List ℕ → List B) (separator : List B) (p s : ℕ) (ds g rest : List ℕ) → cut p s ds ≡ g ∷ cut p s rest →
    joined_after separator (map f (cut p s ds)) ≡ separator ++ (f g ++ joined_after separator (map f (cut p s rest)))
joined_after-next f separator p s ds g rest e = rw e refl

-- where digits are left, a group ends before them
pub due_of : (p s : ℕ) (ds : List ℕ) → (ds ≡ []) ⊎ IsDue p s (length ds) → 0 < length ds → IsDue p s (length ds)
due_of p s ds (inl none) some = absurd (omega (arith, ap length none))
due_of p s ds (inr due) some = due

-- nothing follows the last group
pub joined_after-none : {B : Type 0} (f : List ℕ → List B) (separator : List B) (p s : ℕ) (ds : List ℕ) → length ds ≡ 0 →
    joined_after separator (map f (cut p s ds)) ≡ []
joined_after-none f separator p s [] e = refl
joined_after-none f separator p s (d ∷ ds) e = absurd (omega arith)

-- the first group of any digits, and what is left after it
pub first_of : {B : Type 0} (f : List ℕ → List B) (separator : List B) (p s : ℕ) (ds : List ℕ) (n : ℕ) → f [] ≡ [] → 0 < p → 0 < s →
    IsGap p s (length ds) n → (joined separator (map f (cut p s ds)) ≡ f (take n ds) ++ joined_after separator (map f (cut p s (drop n ds))))
    × ((drop n ds ≡ []) ⊎ IsDue p s (length (drop n ds))) × (n ≤ length ds)
first_of {B = B} f separator p s ds n nil hp hs gap = elim (cases_lt p (length ds)) [
  | inl more ↦
      let step = first_cut p s ds n hp hs more gap in
      (joined-front f separator p s ds (take n ds) (drop n ds) step.0, inr step.1, step.2)
  | inr few ↦
      let all : n ≡ length ds = gap.0 few in
      let whole : take n ds ≡ ds = take_all n ds (omega arith) in
      let none : drop n ds ≡ [] = drop_all n ds (omega arith) in
      (rw (whole, none) (one_of ds few), inl none, omega arith)
]
  where
    one_of : (xs : List ℕ) → length xs ≤ p → joined separator (map f (cut p s xs)) ≡ f xs ++ joined_after separator (map f [])
    one_of [] few = rw nil refl
    one_of (x ∷ xs) few = rw (cut-one p s (x ∷ xs) (omega arith) few) refl

-- the next group where digits are left, and what is left after it
pub next_of : (p s : ℕ) (ds : List ℕ) (n : ℕ) → 0 < p → 0 < s → (ds ≡ []) ⊎ IsDue p s (length ds) → 0 < length ds →
    n ≡ next_size p s (length ds) → (cut p s ds ≡ take n ds ∷ cut p s (drop n ds)) × ((drop n ds ≡ []) ⊎ IsDue p s (length (drop n ds)))
    × (n ≤ length ds)
next_of p s ds n hp hs due some size = next_cut p s ds n hp hs some (due_of p s ds due some) size

-- the next group has a digit
pub next_some : (p s n count : ℕ) → 0 < p → 0 < s → n ≡ next_size p s count → 0 < n
next_some p s n count hp hs size = elim (eqb_tells count p) [ inl t ↦ omega (arith, size, (rw t.0 at size)) | inr f ↦ omega (arith, (rw f.0 at size)) ]
