-- The values of plural elements, and which of them a number selects.
use Rattle.std.specs.Prelude.{◌≡◌, ℕ, Bool, false, not, ◌&&◌, ◌==◌, is_some, is_none, if◌then◌else◌, List, [], ◌∷◌, map, take}
use Rattle.std.specs.Prelude.{slice_index_or, Option, Some, None, unwrap_or}
use Rattle.std.specs.List.{list_all}
use Rattle.std.specs.Option.{option_eq}
use Rattle.icu_plurals.specs.Operands.{Operands}
use Rattle.icu_plurals.specs.declared.category.PluralCategory.{PluralCategory}
use Rattle.icu_plurals.specs.declared.category.PluralCategory.TheVariants.{Zero, One, Two, Few, Many, Other}

-- a value for exactly zero and for exactly one, for each category that has its own, and for all other numbers
pub record Elements (T : Type 0) : Type 0 where
  pub explicit_zero : Option T
  pub explicit_one : Option T
  pub zero : Option T
  pub one : Option T
  pub two : Option T
  pub few : Option T
  pub many : Option T
  pub other : T

-- one value for all numbers
abbrev pub only_other : {T : Type 0} → T → Elements T
only_other value = record { explicit_zero = None; explicit_one = None; zero = None; one = None; two = None; few = None; many = None; other = value }

-- the eight slots in their order; the last is never empty
abbrev pub slots : {T : Type 0} → Elements T → List (Option T)
slots e = e.explicit_zero ∷ e.explicit_one ∷ e.zero ∷ e.one ∷ e.two ∷ e.few ∷ e.many ∷ Some e.other ∷ []

-- the value for all numbers, where no other slot has one
abbrev pub sole_value : {T : Type 0} → Elements T → Option T
sole_value e = if list_all is_none (take 7 (slots e)) then Some e.other else None

-- the same with no value for exactly one
abbrev pub without_explicit_one : {T : Type 0} → Elements T → Elements T
without_explicit_one e = record e { explicit_one = None }

-- whether all eight slots are equal
abbrev pub same_elements : {T : Type 0} → (T → T → Bool) → Elements T → Elements T → Bool
same_elements eq a b =
    option_eq eq a.explicit_zero b.explicit_zero && (option_eq eq a.explicit_one b.explicit_one &&
    (option_eq eq a.zero b.zero && (option_eq eq a.one b.one &&
    (option_eq eq a.two b.two && (option_eq eq a.few b.few && (option_eq eq a.many b.many && eq a.other b.other))))))

-- whether the number is this whole one, written without fraction digits or an exponent
abbrev pub is_exactly : ℕ → Operands → Bool
is_exactly n o = not o.is_large && (o.i == n && (o.v == 0 && o.c == 0))

-- the value for just this number (UTS 35 Part 3, Explicit 0 and 1 rules)
abbrev pub explicit_value : {T : Type 0} → Elements T → Operands → Option T
explicit_value e o = if is_exactly 0 o then e.explicit_zero else if is_exactly 1 o then e.explicit_one else None

-- the category's own value
abbrev pub category_value : {T : Type 0} → Elements T → PluralCategory → Option T
category_value e Zero = e.zero
category_value e One = e.one
category_value e Two = e.two
category_value e Few = e.few
category_value e Many = e.many
category_value e Other = None

-- the value that a number of these operands and this category selects: the one for just this number, else the
-- category's own, else that for all other numbers
abbrev pub selected : {T : Type 0} → Elements T → Operands → PluralCategory → T
selected e o category = unwrap_or (explicit_value e o) (unwrap_or (category_value e category) e.other)

-- which slots have a value
abbrev pub presence : {T : Type 0} → Elements T → List Bool
presence e = map is_some (slots e)

-- the number of a slot, where it is present
abbrev pub number_at : List Bool → ℕ → Option ℕ
number_at present slot = if slice_index_or present slot false then Some slot else None

-- Elements with a value in just these of the first seven slots, and in the last: each is the number of its slot.
abbrev pub numbered : List Bool → Elements ℕ
numbered present = record {
  explicit_zero = number_at present 0;
  explicit_one = number_at present 1;
  zero = number_at present 2;
  one = number_at present 3;
  two = number_at present 4;
  few = number_at present 5;
  many = number_at present 6;
  other = 7;
}

-- the slot from which a number of these operands and this category gets its value, where just these are present
abbrev pub selected_slot : List Bool → Operands → PluralCategory → ℕ
selected_slot present o category = selected (numbered present) o category

-- of elements whose values are texts, the one that is selected stands in the slot that is
abbrev pub SelectedSlotHoldsTheSelected : Type 0
SelectedSlotHoldsTheSelected = (e : Elements (List ℕ)) (o : Operands) (category : PluralCategory) →
    slice_index_or (slots e) (selected_slot (presence e) o category) None ≡ Some (selected e o category)
