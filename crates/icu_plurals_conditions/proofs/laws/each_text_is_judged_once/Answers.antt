use Rattle.icu_plurals_conditions.proofs.Judged.{one_of_both, fault_or_condition}
use Rattle.icu_plurals_conditions.proofs.laws.each_text_is_judged_once.Goals as goal

pub returns-clause-judged : goal.returns-clause-judged
returns-clause-judged c = one_of_both

pub returns-clause-once : goal.returns-clause-once
returns-clause-once c = fault_or_condition
