use Rattle.std.proofs.Common.{◌≡◌, map, take}
use Rattle.icu_plurals_conditions.specs.Owned.{relations_of}
use Rattle.icu_plurals_conditions.proofs.condition.copy_alternatives.Given as goal

-- what has been copied so far
abbrev pub invariant-loop-alternative : goal.invariant-loop-alternative
invariant-loop-alternative l = map relations_of l.copied.items ≡ map relations_of (take l.alternative-index l.alternatives)
