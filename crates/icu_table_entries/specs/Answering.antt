-- What lists of entries answer as a provider.
use Rattle.std.specs.Prelude.{List, Option, Some, None, Result, Ok}
use Rattle.icu_provider.specs.Answer.{Refusal, refused}
use Rattle.icu_provider.specs.Identifier.{Identifier}
use Rattle.icu_provider.specs.declared.error.DataErrorKind.TheVariants.{IdentifierNotFound, MarkerNotFound}
use Rattle.icu_table_entries.specs.Named.{NamedEntry, first_filed}

-- what was found, or the error
abbrev pub or_not_found : {A : Type 0} → Option A → Result A Refusal
or_not_found None = refused IdentifierNotFound
or_not_found (Some x) = Ok x

-- the first entry with the identifier
abbrev pub filed_answer : {A : Type 0} → List (NamedEntry A) → Identifier → Result A Refusal
filed_answer entries id = or_not_found (first_filed id entries)

-- the same under a key that may be absent: without the key there is no such data for any identifier
abbrev pub optional_answer : {A : Type 0} → Option (List (NamedEntry A)) → Identifier → Result A Refusal
optional_answer None id = refused MarkerNotFound
optional_answer (Some entries) id = filed_answer entries id
