-- The first entry with an identifier, where a part of each is seen.
use Rattle.std.proofs.Common.{◌≡◌, List, [], ◌∷◌, option_map, map, refl, inl, inr}
use Rattle.std.proofs.lemmas.Bool.{cases_Bool}
use Rattle.icu_provider.specs.Identifier.{Identifier, same_identifier}
use Rattle.icu_dimension_tables.specs.Money.{filed_part}
use Rattle.icu_table_entries.specs.Named.{NamedEntry, first_filed}

-- it is the part of the first entry with it
pub first_part : {A B : Type 0} (part : A → B) (id : Identifier) (es : List (NamedEntry A))
    → first_filed id (map (filed_part part) es) ≡ option_map part (first_filed id es)
unfolding first_filed
first_part part id [] = refl
first_part part id (e ∷ es) = elim (cases_Bool (same_identifier id e.identifier)) [
  | inl here ↦ rw here refl
  | inr there ↦ rw there (first_part part id es)
]
