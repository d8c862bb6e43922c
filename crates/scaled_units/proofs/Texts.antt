-- The parts of a text: its number, and the unit of its suffix.
use Rattle.std.proofs.Common.{◌≡◌, ℕ, List, take, drop, Result, Ok, Err, sym, ◌∙◌, ap}
use Rattle.scaled_units.specs.declared.scale.FromScale.{FromScale}
use Rattle.scaled_units.specs.declared.scale.Unit.{Unit}
use Rattle.scaled_units.specs.declared.error.NotScaled.{NotScaled}
use Rattle.scaled_units.specs.Suffixes.{number_length, number_part, suffix_unit, text_unit}

-- the parts as the code has them
module _ (scale : FromScale) (text : List ℕ) (n : ℕ) (count : n ≡ number_length text) where
  pub number_is : (front : List ℕ) → front ≡ take n text → number_part text ≡ front
  number_is front e = ap (λ k. take k text) (sym count) ∙ sym e

  pub unit_is : (suffix : List ℕ) (r : Result Unit NotScaled) → suffix ≡ drop n text → r ≡ suffix_unit scale n suffix → text_unit scale text ≡ r
  unfolding text_unit
  unit_is suffix r back e = ap (λ k. suffix_unit scale k (drop k text)) (sym count) ∙ ap (suffix_unit scale n) (sym back) ∙ sym e

-- a unit is no fault
pub not_both : (u : Unit) (f : NotScaled) → ◌≡◌ {A = Result Unit NotScaled} (Ok u) (Err f) → ⊥
not_both u f e = cc

-- one fault
pub same_fault : {T : Type 0} (f g : NotScaled) → ◌≡◌ {A = Result T NotScaled} (Err f) (Err g) → f ≡ g
same_fault f g e = cc
