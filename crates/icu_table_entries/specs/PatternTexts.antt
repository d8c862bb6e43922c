-- Texts of patterns, not yet judged.
use Rattle.std.specs.Prelude.{ℕ, List, None, option_map}
use Rattle.std.specs.Borrow.{Bor}
use Rattle.icu_plurals.specs.Elements.{Elements}

-- one for all other numbers, and any of the others
abbrev pub Texts : Type 0
Texts = Elements (List ℕ)

-- one for all numbers
abbrev pub only_other : List ℕ → Texts
only_other other = record {
  explicit_zero = None;
  explicit_one = None;
  zero = None;
  one = None;
  two = None;
  few = None;
  many = None;
  other = other;
}

-- the texts that are lent
abbrev pub texts_lent : Elements (Bor (List ℕ)) → Texts
texts_lent e = record {
  explicit_zero = option_map (λ s. s.now) e.explicit_zero;
  explicit_one = option_map (λ s. s.now) e.explicit_one;
  zero = option_map (λ s. s.now) e.zero;
  one = option_map (λ s. s.now) e.one;
  two = option_map (λ s. s.now) e.two;
  few = option_map (λ s. s.now) e.few;
  many = option_map (λ s. s.now) e.many;
  other = e.other.now;
}
