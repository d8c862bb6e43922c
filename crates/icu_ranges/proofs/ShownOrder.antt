-- The order of ends, signs counted, and equal texts.
use Rattle.std.proofs.Common.{◌≡◌, ◌≢◌, ℕ, ◌≤◌, ℤ, pos, ◌-ℤ◌, ◌<ℤ◌, Bool, true}
use Rattle.std.proofs.Common.{false, List, refl, sym, ap, ◌∙◌, arith, inl, inr, if◌then◌else◌}
use Rattle.std.specs.Prelude.{nat_eq}
use Rattle.std.specs.Cmp.Lexicographic.{pointwise}
use Rattle.std.proofs.lemmas.Int.{ints}
use Rattle.std.proofs.lemmas.Bool.{cases_eq, cases_lt}
use Rattle.icu_ranges.proofs.PatternCuts.{bytes_same, bytes_true}

-- a size, below zero where it is negative
abbrev signed : Bool → ℕ → ℤ
signed negative x = if negative then pos 0 -ℤ pos x else pos x

-- Sizes a and b are shown as x and y, in their order, and 0 as 0. Then ends that ascend are shown in order.
pub shown_in_order : (s t : Bool) (a b x y : ℕ) → ¬ (signed t b <ℤ signed s a) → (a ≤ b → x ≤ y) → (b ≤ a → y ≤ x) →
    (a ≡ 0 → x ≡ 0) → (b ≡ 0 → y ≡ 0) → ¬ (signed t y <ℤ signed s x)
shown_in_order false false a b x y h up down za zb above = elim (cases_lt b a) [
  | inl less ↦ h (omega (arith, ints, less))
  | inr more ↦ omega (arith, ints, above, up more)
]
shown_in_order true true a b x y h up down za zb above = elim (cases_lt a b) [
  | inl less ↦ h (omega (arith, ints, less))
  | inr more ↦ omega (arith, ints, above, down more)
]
shown_in_order true false a b x y h up down za zb above = omega (arith, ints, above)
shown_in_order false true a b x y h up down za zb above = elim (cases_eq a 0) [
  | inl none ↦ elim (cases_eq b 0) [
    | inl zero_too ↦ omega (arith, ints, above, za none, zb zero_too)
    | inr some ↦ h (omega (arith, ints, some))
  ]
  | inr some ↦ h (omega (arith, ints, some))
]

-- texts that are equal are found equal, and others aren't
pub found_same : (a b : List ℕ) → a ≡ b → pointwise nat_eq a b ≡ true
found_same a b e = ap (λ t. pointwise nat_eq a t) (sym e) ∙ bytes_same a

pub found_other : (a b : List ℕ) → a ≢ b → pointwise nat_eq a b ≡ false
found_other a b differ = go (pointwise nat_eq a b) refl
  where
    go : (s : Bool) → pointwise nat_eq a b ≡ s → pointwise nat_eq a b ≡ false
    go true e = absurd (differ (bytes_true a b e))
    go false e = e
