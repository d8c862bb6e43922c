use Rattle.icu_plurals_conditions.proofs.Judged.{fault_is_unique}
use Rattle.icu_plurals_conditions.proofs.laws.first_faults_are_unique.Goals as goal

pub returns : goal.returns
returns c = fault_is_unique
