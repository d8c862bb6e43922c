-- The conditions that the values of `src/condition.rt` are.
use Rattle.std.specs.Prelude.{List, map}
use Rattle.icu_plurals_conditions.specs.declared.condition.Relation.{Relation as OwnedRelation}
use Rattle.icu_plurals_conditions.specs.declared.condition.Alternative.{Alternative}
use Rattle.icu_plurals_conditions.specs.declared.condition.Condition.{Condition as OwnedCondition}
use Rattle.icu_plurals_conditions.specs.Grammar.{Relation, Condition}

-- the relation of a value
abbrev pub relation_of : OwnedRelation → Relation
relation_of r = record { operand = r.operand; modulus = r.modulus; negated = r.negated; ranges = r.ranges.items }

-- the relations of an alternative
abbrev pub relations_of : Alternative → List Relation
relations_of a = map relation_of a.relations.items

-- the condition of a value
abbrev pub condition_in : OwnedCondition → Condition
condition_in c = map relations_of c.alternatives.items
