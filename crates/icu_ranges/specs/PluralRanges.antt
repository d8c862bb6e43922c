-- The plural category of a range (UTS 35 Part 3, Plural Ranges).
use Rattle.std.specs.Prelude.{ℕ, ◌+◌, Bool, false, ◌==◌, ◌&&◌, ◌||◌, List, [], ◌∷◌, Option, Some, None, if◌then◌else◌}
use Rattle.icu_plurals.specs.declared.category.PluralCategory.{PluralCategory}
use Rattle.icu_plurals.specs.declared.category.PluralCategory.TheVariants.{Zero, One, Two, Few, Many, Other}
use Rattle.icu_ranges.specs.declared.plural_ranges.PluralRange.{PluralRange}

-- the categories in their order
abbrev pub category_number : PluralCategory → ℕ
category_number Zero = 0
category_number One = 1
category_number Two = 2
category_number Few = 3
category_number Many = 4
category_number Other = 5

-- an entry is for these categories of the start and of the end
abbrev pub is_for : PluralRange → PluralCategory → PluralCategory → Bool
is_for r start end = category_number r.start == category_number start && category_number r.end == category_number end

-- the result for a start and an end; `other` where there is none
abbrev pub resolved : List PluralRange → PluralCategory → PluralCategory → PluralCategory
resolved [] start end = Other
resolved (r ∷ rs) start end = if is_for r start end then r.result else resolved rs start end

-- some entry is for these categories
abbrev pub has_pair : List PluralRange → PluralCategory → PluralCategory → Bool
has_pair [] start end = false
has_pair (r ∷ rs) start end = is_for r start end || has_pair rs start end

-- some pair of categories has two entries
abbrev pub has_repeated : List PluralRange → Bool
has_repeated [] = false
has_repeated (r ∷ rs) = has_pair rs r.start r.end || has_repeated rs

-- the index, from i on, of the first entry whose pair of categories a later entry has too
abbrev pub first_repeated : ℕ → List PluralRange → Option ℕ
first_repeated i [] = None
first_repeated i (r ∷ rs) = if has_pair rs r.start r.end then Some i else first_repeated (i + 1) rs
