-- Where the text of a range pattern is cut.
use Rattle.std.proofs.Common.{◌≡◌, ◌≢◌, ℕ, zero, suc, ◌<◌, List, [], ◌∷◌}
use Rattle.std.proofs.Common.{◌++◌, length, get_or, refl, sym, ap, ◌∙◌, arith, length-append}
use Rattle.std.specs.Prelude.{codes, nat_eq, Bool, true, false, not, Some, None}
use Rattle.std.specs.Cmp.Lexicographic.{pointwise}
use Rattle.std.proofs.lemmas.Bool.{and_parts, eqb-true, eq-eqb}
use Rattle.std.proofs.Math.Dec.{eqb-suc-zero}
use Rattle.std.specs.Borrow.{Bor}
use Rattle.std.proofs.lemmas.Str.Pattern.{IsSplitOnceResult, split_after, split_parts}
use Rattle.icu_ranges.specs.Separator.{IsRangePattern, Lacks}

-- texts with the same bytes are one text
pub bytes_true : (a b : List ℕ) → pointwise nat_eq a b ≡ true → a ≡ b
bytes_true [] [] e = refl
bytes_true [] (y ∷ ys) e = absurd cc
bytes_true (x ∷ xs) [] e = absurd cc
bytes_true (x ∷ xs) (y ∷ ys) e =
    let p = and_parts (nat_eq x y) (pointwise nat_eq xs ys) e in
    let h : x ≡ y = eqb-true _ _ p.0 in
    let t : xs ≡ ys = bytes_true xs ys p.1 in
    cc

-- a text has its own bytes
pub bytes_same : (a : List ℕ) → pointwise nat_eq a a ≡ true
bytes_same [] = refl
bytes_same (x ∷ xs) = let h : nat_eq x x ≡ true = eq-eqb x x refl in let t = bytes_same xs in rw (h, t) refl

-- where a test finds a difference, there is one
pub differs_from : (r : Bool) (a b : List ℕ) → r ≡ true → r ≡ not (pointwise nat_eq a b) → a ≡ b → ⊥
differs_from r a b passed is same =
    let h : not (pointwise nat_eq a a) ≡ false = ap not (bytes_same a) in
    let k : true ≡ not (pointwise nat_eq a a) = sym passed ∙ is ∙ ap (λ t. not (pointwise nat_eq a t)) (sym same) in
    cc

-- where it finds none, there is none
pub same_as : (r : Bool) (a b : List ℕ) → r ≡ false → r ≡ not (pointwise nat_eq a b) → a ≡ b
same_as r a b failed is = go (pointwise nat_eq a b) refl
  where
    go : (s : Bool) → pointwise nat_eq a b ≡ s → a ≡ b
    go true e = bytes_true a b e
    go false e = let k : false ≡ true = sym failed ∙ is ∙ ap not e in absurd cc

-- a text that is found empty has no bytes
pub found_empty : (r : Bool) (a : List ℕ) → r ≡ true → r ≡ nat_eq (length a) 0 → a ≢ [] → ⊥
found_empty r [] passed is some = some refl
found_empty r (x ∷ xs) passed is some = let k : true ≡ false = sym passed ∙ is ∙ eqb-suc-zero (length xs) in absurd cc

-- one that isn't has some
pub found_some : (r : Bool) (a : List ℕ) → r ≡ false → r ≡ nat_eq (length a) 0 → a ≢ []
found_some r a failed is empty = let k : false ≡ true = sym failed ∙ is ∙ ap (λ t. nat_eq (length t) 0) empty in absurd cc

-- two parts of a text
abbrev Cut : Type 0
Cut = Bor (List ℕ) × Bor (List ℕ)

-- the first place has no closing brace before its end
start_lacks : Lacks 125 (codes "{0")
start_lacks zero h = omega arith
start_lacks (suc zero) h = omega arith
start_lacks (suc (suc i)) h = absurd (omega arith)

-- a range pattern is cut behind its first place
pub cut_at_start : (text s : List ℕ) (x : Cut) → IsSplitOnceResult 125 text (Some x) → IsRangePattern text s →
    (x.0.now ≡ codes "{0") × (x.1.now ≡ s ++ (123 ∷ codes "1}"))
cut_at_start text s x h p = split_after 125 text (codes "{0") (s ++ (123 ∷ codes "1}")) (Some x) h (omega arith) p.places start_lacks

-- it is cut there
pub is_cut_at_start : (text s : List ℕ) → IsSplitOnceResult 125 text None → IsRangePattern text s → ⊥
is_cut_at_start text s h p = split_after 125 text (codes "{0") (s ++ (123 ∷ codes "1}")) None h (omega arith) p.places start_lacks

-- the rest is cut behind the separator
pub cut_at_end : (text rest s : List ℕ) (y : Cut) → IsSplitOnceResult 123 rest (Some y) → rest ≡ s ++ (123 ∷ codes "1}") → IsRangePattern text s →
    (y.0.now ≡ s) × (y.1.now ≡ codes "1}")
cut_at_end text rest s y h e p = split_after 123 rest s (codes "1}") (Some y) h (omega arith) e p.no_opening_brace

pub is_cut_at_end : (text rest s : List ℕ) → IsSplitOnceResult 123 rest None → rest ≡ s ++ (123 ∷ codes "1}") → IsRangePattern text s → ⊥
is_cut_at_end text rest s h e p = split_after 123 rest s (codes "1}") None h (omega arith) e p.no_opening_brace

-- the byte behind a beginning
byte_behind : (xs : List ℕ) (c : ℕ) (ys : List ℕ) → get_or (xs ++ (c ∷ ys)) (length xs) 0 ≡ c
byte_behind [] c ys = refl
byte_behind (x ∷ xs) c ys = byte_behind xs c ys

-- a text that is cut at a byte has it
pub cut_has : (c : ℕ) (s : List ℕ) (z : Cut) → c < 128 → IsSplitOnceResult c s (Some z) → Lacks c s → ⊥
cut_has c s z low h lacks =
    let parts = split_parts c s (Some z) h low in
    let here : get_or s (length z.0.now) 0 ≡ c = ap (λ t. get_or t (length z.0.now) 0) parts.0 ∙ byte_behind z.0.now c z.1.now in
    lacks (length z.0.now) (omega (arith, ap length parts.0, length-append z.0.now (c ∷ z.1.now))) here

-- the three cuts make a range pattern
pub cuts_make : (text rest : List ℕ) (x y : Cut) → IsSplitOnceResult 125 text (Some x) → x.1.now ≡ rest → IsSplitOnceResult 123 rest (Some y) →
    IsSplitOnceResult 125 y.0.now None → x.0.now ≡ codes "{0" → y.1.now ≡ codes "1}" → y.0.now ≢ [] → IsRangePattern text y.0.now
cuts_make text rest x y h same k l start end some =
    let one = split_parts 125 text (Some x) h (omega arith) in
    let two = split_parts 123 rest (Some y) k (omega arith) in
    record {
      places =
          one.0 ∙ ap (λ t. t ++ (125 ∷ x.1.now)) start ∙ ap (λ t. codes "{0}" ++ t) (same ∙ two.0 ∙ ap (λ t. y.0.now ++ (123 ∷ t)) end);
      some = some;
      no_opening_brace = two.1;
      no_closing_brace = split_parts 125 y.0.now None l (omega arith);
    }
