-- Texts for plural categories, and the patterns that they spell.
use Rattle.std.specs.Prelude.{Bool, true, false, Option, Some, None, Result, Ok}
use Rattle.serde_json.specs.Data.{Data, object, Members, no_members, member}
use Rattle.icu_pattern.specs.Patterns.{PatternText}
use Rattle.icu_plurals.specs.Elements.{Elements}
use Rattle.icu_table_entries.specs.PatternTexts.{Texts}
use Rattle.icu_table_entries.specs.Reading.{◌>>=◌, object_in, optional_at, text_in, text_at}
use Rattle.icu_table_entries.specs.Spelling.{pattern_of, optional_pattern_of}
use Rattle.icu_table_entries.specs.declared.error.Key.{Key}
use Rattle.icu_table_entries.specs.declared.error.Key.TheVariants.{ExplicitZero, ExplicitOne, Zero, One, Two, Few, Many, Other}
use Rattle.icu_table_entries.specs.declared.error.Position.{Position}
use Rattle.icu_table_entries.specs.declared.error.TableError.{TableError}

-- whether members are one
abbrev pub are_one : Members → Bool
are_one no_members = false
are_one (member name d no_members) = true
are_one (member name d (member next e ds)) = false

-- whether a value is an object with just one member
abbrev pub has_one_member : Data → Bool
has_one_member (object ds) = are_one ds
has_one_member _ = false

-- the texts of an object under a key, one for each plural category
unfoldable pub category_texts_in : Key → Data → Result Texts TableError
category_texts_in key d = do
  d ← object_in key d
  other ← text_at Other d
  explicit_zero ← optional_at (text_in ExplicitZero) ExplicitZero d
  explicit_one ← optional_at (text_in ExplicitOne) ExplicitOne d
  zero ← optional_at (text_in Zero) Zero d
  one ← optional_at (text_in One) One d
  two ← optional_at (text_in Two) Two d
  few ← optional_at (text_in Few) Few d
  many ← optional_at (text_in Many) Many d
  Ok (record { explicit_zero = explicit_zero; explicit_one = explicit_one; zero = zero; one = one; two = two; few = few; many = many; other = other })

-- the patterns of texts, in three parts: the one for all other numbers is judged first
unfoldable pub first_patterns_of : Position → Texts → Result (Elements PatternText) TableError
first_patterns_of position t = do
  other ← pattern_of position t.other
  explicit_zero ← optional_pattern_of position t.explicit_zero
  explicit_one ← optional_pattern_of position t.explicit_one
  zero ← optional_pattern_of position t.zero
  Ok (record { explicit_zero = explicit_zero; explicit_one = explicit_one; zero = zero; one = None; two = None; few = None; many = None; other = other })

-- with those of the categories one and two
unfoldable pub with_one_and_two : Position → Texts → Elements PatternText → Result (Elements PatternText) TableError
with_one_and_two position t e = do
  one ← optional_pattern_of position t.one
  two ← optional_pattern_of position t.two
  Ok (record e { one = one; two = two })

-- with those of the categories few and many
unfoldable pub with_few_and_many : Position → Texts → Elements PatternText → Result (Elements PatternText) TableError
with_few_and_many position t e = do
  few ← optional_pattern_of position t.few
  many ← optional_pattern_of position t.many
  Ok (record e { few = few; many = many })

-- the patterns of texts, or their first fault
unfoldable pub patterns_of : Position → Texts → Result (Elements PatternText) TableError
patterns_of position t = do
  e ← first_patterns_of position t
  e ← with_one_and_two position t e
  with_few_and_many position t e

-- the patterns of texts that may be absent
unfoldable pub optional_patterns_of : Position → Option Texts → Result (Option (Elements PatternText)) TableError
optional_patterns_of position t = elim t [
  | None ↦ Ok None
  | Some texts ↦ (patterns_of position texts >>= λ patterns. Ok (Some patterns))
]
