-- The slot of a selected value.
use Rattle.std.proofs.Common.{◌≡◌, ◌<◌, arith, Bool, true, false, ℕ, refl, List, Option, Some, None, slice_index_or}
use Rattle.std.specs.Prelude.{unwrap_or, is_some, if◌then◌else◌}
use Rattle.icu_plurals.specs.Operands.{Operands}
use Rattle.icu_plurals.specs.Elements.{Elements, slots, presence, numbered, number_at, selected, selected_slot, is_exactly, category_value}
use Rattle.icu_plurals.specs.declared.category.PluralCategory.{PluralCategory}
use Rattle.icu_plurals.specs.declared.category.PluralCategory.TheVariants.{Zero, One, Two, Few, Many, Other}

module _ {T : Type 0} (e : Elements T) where
  -- what stands in a slot
  held : ℕ → Option T
  held slot = slice_index_or (slots e) slot None

  one_of : (slot : ℕ) (o : Option T) (rest : ℕ) (value : T) → slice_index_or (slots e) slot None ≡ o →
      slice_index_or (slots e) rest None ≡ Some value
      → slice_index_or (slots e) (unwrap_or (if is_some o then Some slot else None) rest) None ≡ Some (unwrap_or o value)
  one_of slot None rest value h r = r
  one_of slot (Some x) rest value h r = h

  by_category : (category : PluralCategory)
      → slice_index_or (slots e) (unwrap_or (category_value (numbered (presence e)) category) 7) None ≡ Some (unwrap_or (category_value e category) e.other)
  by_category Zero = one_of 2 e.zero 7 e.other refl refl
  by_category One = one_of 3 e.one 7 e.other refl refl
  by_category Two = one_of 4 e.two 7 e.other refl refl
  by_category Few = one_of 5 e.few 7 e.other refl refl
  by_category Many = one_of 6 e.many 7 e.other refl refl
  by_category Other = refl

  -- the selected slot holds the selected value
  pub selected_slot_holds : (o : Operands) (category : PluralCategory)
      → slice_index_or (slots e) (selected_slot (presence e) o category) None ≡ Some (selected e o category)
  selected_slot_holds o category = go (is_exactly 0 o) (is_exactly 1 o)
    where
      go : (zero one : Bool)
          → slice_index_or (slots e) (unwrap_or (if zero then number_at (presence e) 0 else if one then number_at (presence e) 1 else None)
          (unwrap_or (category_value (numbered (presence e)) category) 7)) None
          ≡ Some (unwrap_or (if zero then e.explicit_zero else if one then e.explicit_one else None) (unwrap_or (category_value e category) e.other))
      go true one = one_of 0 e.explicit_zero _ _ refl (by_category category)
      go false true = one_of 1 e.explicit_one _ _ refl (by_category category)
      go false false = by_category category

small_or : (b : Bool) (slot rest : ℕ) → slot < 8 → rest < 8 → unwrap_or (if b then Some slot else None) rest < 8
small_or true slot rest h k = h
small_or false slot rest h k = k

-- the selected slot is one of eight
pub selected_slot_small : (present : List Bool) (o : Operands) (category : PluralCategory) → selected_slot present o category < 8
selected_slot_small present o category = go (is_exactly 0 o) (is_exactly 1 o)
  where
    by_category : (category : PluralCategory) → unwrap_or (category_value (numbered present) category) 7 < 8
    by_category Zero = small_or (slice_index_or present 2 false) 2 7 (omega arith) (omega arith)
    by_category One = small_or (slice_index_or present 3 false) 3 7 (omega arith) (omega arith)
    by_category Two = small_or (slice_index_or present 4 false) 4 7 (omega arith) (omega arith)
    by_category Few = small_or (slice_index_or present 5 false) 5 7 (omega arith) (omega arith)
    by_category Many = small_or (slice_index_or present 6 false) 6 7 (omega arith) (omega arith)
    by_category Other = omega arith

    go : (zero one : Bool) → unwrap_or (if zero then number_at present 0 else if one then number_at present 1 else None)
        (unwrap_or (category_value (numbered present) category) 7) < 8
    go true one = small_or (slice_index_or present 0 false) 0 _ (omega arith) (by_category category)
    go false true = small_or (slice_index_or present 1 false) 1 _ (omega arith) (by_category category)
    go false false = by_category category
