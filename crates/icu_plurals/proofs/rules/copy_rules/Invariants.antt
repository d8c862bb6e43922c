use Rattle.std.proofs.Common.{◌≡◌, map, take}
use Rattle.icu_plurals.specs.Rules.{rule_of}
use Rattle.icu_plurals.proofs.rules.copy_rules.Given as goal

-- what has been copied so far
abbrev pub invariant-loop-rule : goal.invariant-loop-rule
invariant-loop-rule l = map rule_of l.copied.items ≡ map rule_of (take l.rule-index l.rules)
