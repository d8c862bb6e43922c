use Rattle.icu_plurals_conditions.proofs.Judged.{condition_is_unique}
use Rattle.icu_plurals_conditions.proofs.laws.conditions_are_unique.Goals as goal

pub returns : goal.returns
returns c = condition_is_unique
