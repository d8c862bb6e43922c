-- The names of entries: locales and numbering systems.
use Rattle.std.specs.Prelude.{ℕ, Bool, nat_eq, List, [], ◌∷◌, Option, Some, None, Result, Ok, Err, if◌then◌else◌}
use Rattle.std.specs.Cmp.Lexicographic.{pointwise}
use Rattle.icu_provider.specs.Identifier.{Identifier, same_identifier}
use Rattle.icu_provider.specs.Locale.{is_locale}
use Rattle.icu_provider.specs.NumberingSystem.{is_numbering_system}
use Rattle.icu_table_entries.specs.Reading.{◌>>=◌}
use Rattle.icu_table_entries.specs.declared.error.EntryFault.{EntryFault}
use Rattle.icu_table_entries.specs.declared.error.EntryFault.TheVariants.{BadLocale, BadNumberingSystem}
use Rattle.icu_table_entries.specs.declared.error.Position.{Position}
use Rattle.icu_table_entries.specs.declared.error.TableError.{TableError}
use Rattle.icu_table_entries.specs.declared.error.TableError.TheVariants.{Entry}

-- data under an identifier
pub record NamedEntry (A : Type 0) : Type 0 where
  pub identifier : Identifier
  pub content : A

-- the entry at a place is rejected
abbrev pub refused : {A : Type 0} → Position → EntryFault → Result A TableError
refused position fault = Err (Entry position.key position.index fault)

-- the text of a locale
unfoldable pub locale_of : Position → List ℕ → Result (List ℕ) TableError
locale_of position text = if is_locale text then Ok text else refused position BadLocale

-- the name of a numbering system
unfoldable pub system_of : Position → List ℕ → Result (List ℕ) TableError
system_of position text = if is_numbering_system text then Ok text else refused position BadNumberingSystem

-- a name, or none
unfoldable pub optional_system_of : Position → Option (List ℕ) → Result (Option (List ℕ)) TableError
optional_system_of position None = Ok None
optional_system_of position (Some text) = do
  system ← system_of position text
  Ok (Some system)

-- the identifier of a locale and a numbering system or none; the locale is judged first
unfoldable pub identifier_from : Position → List ℕ → Option (List ℕ) → Result Identifier TableError
identifier_from position locale system = do
  locale ← locale_of position locale
  system ← optional_system_of position system
  Ok (record { system = system; locale = locale })

-- the data of the first entry with an identifier
unfoldable pub first_filed : {A : Type 0} → Identifier → List (NamedEntry A) → Option A
first_filed id [] = None
first_filed id (e ∷ es) = if same_identifier id e.identifier then Some e.content else first_filed id es

-- whether the data is of a locale, in any numbering system
abbrev pub is_of : {A : Type 0} → List ℕ → NamedEntry A → Bool
is_of locale e = pointwise nat_eq locale e.identifier.locale
