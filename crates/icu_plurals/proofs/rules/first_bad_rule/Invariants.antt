use Rattle.std.proofs.Common.{◌≡◌, drop}
use Rattle.icu_plurals.specs.Rules.{spelled_rules, bad_rule_from}
use Rattle.icu_plurals.proofs.rules.first_bad_rule.Given as goal

-- the rules before have no fault
abbrev pub invariant-loop-index : goal.invariant-loop-index
invariant-loop-index l = bad_rule_from l.index (spelled_rules (drop l.index l.rules)) ≡ bad_rule_from 0 (spelled_rules l.rules)
