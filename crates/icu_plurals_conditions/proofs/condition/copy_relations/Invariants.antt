use Rattle.std.proofs.Common.{◌≡◌, map, take}
use Rattle.icu_plurals_conditions.specs.Owned.{relation_of}
use Rattle.icu_plurals_conditions.proofs.condition.copy_relations.Given as goal

-- what has been copied so far
abbrev pub invariant-loop-relation : goal.invariant-loop-relation
invariant-loop-relation l = map relation_of l.copied.items ≡ map relation_of (take l.relation-index l.relations)
