-- Entries of the plural categories of ranges (UTS 35 Part 3, Plural Ranges).
use Rattle.std.specs.Prelude.{ℕ, ◌+◌, List, [], ◌∷◌, Option, Some, None, Result, Ok}
use Rattle.std.specs.Borrow.{Bor}
use Rattle.serde_json.specs.Data.{Data}
use Rattle.icu_plurals.specs.declared.category.PluralCategory.{PluralCategory}
use Rattle.icu_ranges.specs.PluralRanges.{first_repeated}
use Rattle.icu_ranges.specs.declared.plural_ranges.PluralRange.{PluralRange}
use Rattle.icu_tables.specs.Rules.{category_named}
use Rattle.icu_table_entries.specs.Named.{NamedEntry, identifier_from, refused}
use Rattle.icu_table_entries.specs.Reading.{◌>>=◌, entries_at, list_at, object_in, text_at, text_in, triple_in}
use Rattle.icu_table_entries.specs.declared.error.EntryFault.TheVariants.{BadCategory, RepeatedPair}
use Rattle.icu_table_entries.specs.declared.error.Key.TheVariants.{Locale, Ranges}
use Rattle.icu_table_entries.specs.declared.error.Position.{Position}
use Rattle.icu_table_entries.specs.declared.error.TableError.{TableError}

-- the names of the categories of a start, of an end and of the range
pub record Names : Type 0 where
  pub start : List ℕ
  pub end : List ℕ
  pub range : List ℕ

-- the names that are lent
abbrev pub names_lent : Bor (List ℕ) × Bor (List ℕ) × Bor (List ℕ) → Names
names_lent t = record { start = t.0.now; end = t.1.now; range = t.2.now }

-- a triple: a list of three texts, whose names aren't judged yet
unfoldable pub spelled_range_in : Data → Result Names TableError
spelled_range_in d = do
  triple ← triple_in Ranges d
  start ← text_in Ranges triple.0
  end ← text_in Ranges triple.1.0
  range ← text_in Ranges triple.1.1
  Ok (record { start = start; end = end; range = range })

-- each triple in turn
unfoldable pub spelled_ranges_in : List Data → Result (List Names) TableError
spelled_ranges_in ds = entries_at (λ position. spelled_range_in) Ranges 0 ds

-- the category that was named in the triple of this index, if it is one
abbrev pub category_or : Position → ℕ → Option PluralCategory → Result PluralCategory TableError
category_or position k None = refused position (BadCategory k)
category_or position k (Some category) = Ok category

-- the category of a name in the triple of this index
abbrev pub category_of : Position → ℕ → List ℕ → Result PluralCategory TableError
category_of position k name = category_or position k (category_named name)

-- the categories of the triple of this index: of the start, of the end, and of the range
abbrev pub range_of : Position → ℕ → Names → Result PluralRange TableError
range_of position k names = do
  start ← category_of position k names.start
  end ← category_of position k names.end
  range ← category_of position k names.range
  Ok (record { start = start; end = end; result = range })

-- the categories of each triple in turn, from the k-th on
unfoldable pub ranges_of : Position → ℕ → List Names → Result (List PluralRange) TableError
ranges_of position k [] = Ok []
ranges_of position k (t ∷ ts) = do
  r ← range_of position k t
  rs ← ranges_of position (k + 1) ts
  Ok (r ∷ rs)

-- the entries, unless a pair of categories is repeated: then the index of its first entry is told
abbrev pub unless_repeated : Position → List PluralRange → Option ℕ → Result (List PluralRange) TableError
unless_repeated position ranges None = Ok ranges
unless_repeated position ranges (Some k) = refused position (RepeatedPair k)

-- entries of which no two are for one pair of categories
abbrev pub plural_ranges_of : Position → List PluralRange → Result (List PluralRange) TableError
plural_ranges_of position ranges = unless_repeated position ranges (first_repeated 0 ranges)

-- an entry: first the kinds of all its fields, then its name, then its categories, and last whether a pair is repeated
unfoldable pub plural_ranges_at : Position → Data → Result (NamedEntry (List PluralRange)) TableError
plural_ranges_at position d = do
  d ← object_in position.key d
  locale ← text_at Locale d
  ranges ← list_at Ranges d
  spelled ← spelled_ranges_in ranges
  identifier ← identifier_from position locale None
  ranges ← ranges_of position 0 spelled
  ranges ← plural_ranges_of position ranges
  Ok (record { identifier = identifier; content = ranges })
