-- Entries of digits.
use Rattle.std.specs.Prelude.{ℕ, List, [], ◌∷◌, length, ◌==◌, Option, Some, None, Result, Ok, Err, nat_eq, if◌then◌else◌}
use Rattle.std.specs.Cmp.Lexicographic.{pointwise}
use Rattle.std.specs.Str.{chars}
use Rattle.serde_json.specs.Data.{Data}
use Rattle.icu_provider.specs.Answer.{Refusal, refused}
use Rattle.icu_provider.specs.declared.error.DataErrorKind.TheVariants.{IdentifierNotFound}
use Rattle.icu_table_entries.specs.Answering.{or_not_found}
use Rattle.icu_table_entries.specs.Named.{system_of}
use Rattle.icu_table_entries.specs.Reading.{◌>>=◌, text_in, pair_in}
use Rattle.icu_table_entries.specs.declared.error.Key.{Key}
use Rattle.icu_table_entries.specs.declared.error.Position.{Position}
use Rattle.icu_table_entries.specs.declared.error.TableError.{TableError}
use Rattle.icu_table_entries.specs.declared.error.TableError.TheVariants.{WrongKind}

-- the digits of a numbering system, that of 0 first
pub record SystemDigits : Type 0 where
  pub system : List ℕ
  pub digits : List ℕ

-- the characters of a text that has exactly ten
unfoldable pub ten_in : Key → List ℕ → Result (List ℕ) TableError
ten_in key text = if length (chars text) == 10 then Ok (chars text) else Err (WrongKind key)

-- an entry: a list of a name and a text of ten characters
unfoldable pub digits_at : Position → Data → Result SystemDigits TableError
digits_at position d = do
  pair ← pair_in position.key d
  system ← text_in position.key pair.0
  text ← text_in position.key pair.1
  digits ← ten_in position.key text
  system ← system_of position system
  Ok (record { system = system; digits = digits })

-- the digits of the first entry of a numbering system
unfoldable pub first_digits : List ℕ → List SystemDigits → Option (List ℕ)
first_digits system [] = None
first_digits system (e ∷ es) = if pointwise nat_eq system e.system then Some e.digits else first_digits system es

-- the digits of a numbering system, in any locale
abbrev pub system_answer : List SystemDigits → Option (List ℕ) → Result (List ℕ) Refusal
system_answer entries None = refused IdentifierNotFound
system_answer entries (Some system) = or_not_found (first_digits system entries)
