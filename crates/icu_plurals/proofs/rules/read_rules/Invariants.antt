use Rattle.std.proofs.Common.{◌≡◌, map, drop, take, None}
use Rattle.std.specs.List.{AllZip}
use Rattle.icu_plurals.specs.Rules.{spelled_rules, bad_rule_from, rule_of, IsReadFrom}
use Rattle.icu_plurals.proofs.rules.read_rules.Given as goal

-- the rules before are read, and the others have no fault
abbrev pub invariant-loop-index : goal.invariant-loop-index
invariant-loop-index l = (AllZip IsReadFrom (spelled_rules (take l.index l.fn.rules)) (map rule_of l.read.items))
    × (bad_rule_from l.index (spelled_rules (drop l.index l.fn.rules)) ≡ None)
