use Rattle.std.proofs.Common.{sym, ◌∙◌}
use Rattle.icu_plurals.proofs.BadRules.{refused_for_rule, not_refused, memory_is_no_rule}
use Rattle.icu_plurals.proofs.rules.PluralRules.from_rules.Goals as goal

pub returns-in-Some-clause-refused : goal.returns-in-Some-clause-refused
returns-in-Some-clause-refused c = refused_for_rule _ _ _ (sym c.first_bad_rule.ensures ∙ c.in-Some.is)

pub returns-clause-refused : goal.returns-clause-refused
returns-clause-refused c = not_refused _ _ (sym c.first_bad_rule.ensures ∙ c.in_default.is) (memory_is_no_rule _ c.read_rules.ensures.memory)
