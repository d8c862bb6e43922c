use Rattle.icu_plurals_conditions.proofs.Judged.{found_faults, none_spells}
use Rattle.icu_plurals_conditions.proofs.reader.first_fault.Goals as goal

pub returns-clause-fault : goal.returns-clause-fault
returns-clause-fault c = found_faults _ _ c.stop_in.ensures

pub returns-clause-spells : goal.returns-clause-spells
returns-clause-spells c = none_spells _ _ c.stop_in.ensures
