-- Texts of signs: none of them is empty, so that a number with a sign differs from one without.
use Rattle.std.specs.Prelude.{ℕ, List, [], ◌∷◌, Result, Ok}
use Rattle.icu_table_entries.specs.Named.{refused}
use Rattle.icu_table_entries.specs.declared.error.EntryFault.TheVariants.{EmptyText}
use Rattle.icu_table_entries.specs.declared.error.Key.{Key}
use Rattle.icu_table_entries.specs.declared.error.Position.{Position}
use Rattle.icu_table_entries.specs.declared.error.TableError.{TableError}

-- the text under a key, unless it is empty
abbrev pub sign_text_of : Position → Key → List ℕ → Result (List ℕ) TableError
sign_text_of position key [] = refused position (EmptyText key)
sign_text_of position key (b ∷ bs) = Ok (b ∷ bs)
