-- Values for plural categories, made slot by slot.
use Rattle.std.specs.Prelude.{ℕ, Option, option_map}
use Rattle.icu_plurals.specs.Elements.{Elements}

-- what each value is, in its slot
abbrev pub elements_map : {A B : Type 0} → (A → B) → Elements A → Elements B
elements_map f e = record {
  explicit_zero = option_map f e.explicit_zero;
  explicit_one = option_map f e.explicit_one;
  zero = option_map f e.zero;
  one = option_map f e.one;
  two = option_map f e.two;
  few = option_map f e.few;
  many = option_map f e.many;
  other = f e.other;
}

-- the values of the first seven slots and that for all other numbers
abbrev pub elements_in : {A : Type 0} → (ℕ → Option A) → A → Elements A
elements_in in_slot other = record {
  explicit_zero = in_slot 0;
  explicit_one = in_slot 1;
  zero = in_slot 2;
  one = in_slot 3;
  two = in_slot 4;
  few = in_slot 5;
  many = in_slot 6;
  other = other;
}
