-- What texts for plural categories are read as.
use Rattle.std.specs.Prelude.{ℕ, List, Option, Some, None, Result, Ok}
use Rattle.icu_plurals.specs.Elements.{Elements}
use Rattle.icu_table_entries.specs.PatternTexts.{Texts}
use Rattle.icu_table_entries.specs.Reading.{◌>>=◌}
use Rattle.icu_table_entries.specs.declared.error.Position.{Position}
use Rattle.icu_table_entries.specs.declared.error.TableError.{TableError}

-- what a text that may be absent is read as
unfoldable pub optional_read : {A : Type 0} → (Position → List ℕ → Result A TableError) → Position → Option (List ℕ)
    → Result (Option A) TableError
optional_read read position None = Ok None
optional_read read position (Some text) = do
  x ← read position text
  Ok (Some x)

-- what texts are read as, each in its slot; the one for all other numbers is judged first
unfoldable pub elements_read : {A : Type 0} → (Position → List ℕ → Result A TableError) → Position → Texts → Result (Elements A) TableError
elements_read read position t = do
  other ← read position t.other
  explicit_zero ← optional_read read position t.explicit_zero
  explicit_one ← optional_read read position t.explicit_one
  zero ← optional_read read position t.zero
  one ← optional_read read position t.one
  two ← optional_read read position t.two
  few ← optional_read read position t.few
  many ← optional_read read position t.many
  Ok (record { explicit_zero = explicit_zero; explicit_one = explicit_one; zero = zero; one = one; two = two; few = few; many = many; other = other })
