-- A condition holds where its values do.
use Rattle.std.proofs.Common.{◌≡◌, ◌<◌, Bool, true, ◌&&◌, ◌||◌, List, [], ◌∷◌, map, length, refl, ap, ◌∙◌, arith}
use Rattle.std.specs.List.{list_any, list_all}
use Rattle.icu_plurals_conditions.specs.declared.condition.Relation.{Relation as OwnedRelation}
use Rattle.icu_plurals_conditions.specs.declared.condition.Alternative.{Alternative}
use Rattle.icu_plurals.specs.Operands.{Operands}
use Rattle.icu_plurals.specs.Meaning.{relation_holds, holds}
use Rattle.icu_plurals_conditions.specs.Owned.{relation_of, relations_of}

all-map : (o : Operands) (rs : List OwnedRelation) → list_all (λ r. relation_holds o (relation_of r)) rs ≡ list_all (relation_holds o) (map relation_of rs)
all-map o [] = refl
all-map o (r ∷ rs) = ap (λ b. relation_holds o (relation_of r) && b) (all-map o rs)

abbrev one : Operands → List Alternative → Bool
one o xs = list_any (λ a. list_all (λ r. relation_holds o (relation_of r)) a.relations.items) xs

any-map : (o : Operands) (xs : List Alternative) → one o xs ≡ list_any (list_all (relation_holds o)) (map relations_of xs)
any-map o [] = refl
any-map o (x ∷ xs) = ap (λ b. b || one o xs) (all-map o x.relations.items) ∙ ap (λ b. list_all (relation_holds o) (relations_of x) || b) (any-map o xs)

-- some alternative of values holds where some alternative does
pub one-holds : (o : Operands) (xs : List Alternative) → 0 < length xs → one o xs ≡ holds o (map relations_of xs)
one-holds o [] h = absurd (omega arith)
one-holds o (x ∷ xs) h = any-map o (x ∷ xs)

-- without alternatives a condition holds
pub none-holds : (o : Operands) (xs : List Alternative) → length xs ≡ 0 → true ≡ holds o (map relations_of xs)
none-holds o [] h = refl
none-holds o (x ∷ xs) h = absurd (omega arith)
