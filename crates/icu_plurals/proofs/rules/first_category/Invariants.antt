use Rattle.std.proofs.Common.{◌≡◌, map, drop}
use Rattle.icu_plurals.specs.Rules.{rule_of, category_of}
use Rattle.icu_plurals.proofs.rules.first_category.Given as goal

-- the rules that are left decide
abbrev pub invariant-loop-rule : goal.invariant-loop-rule
invariant-loop-rule l = category_of (map rule_of (drop l.rule-index l.rules)) l.operands ≡ category_of (map rule_of l.rules) l.operands
