-- The goals that a search finds at once; it is not tried longer where one is false.
use Rattle.std.proofs.Common.{rules}
use Rattle.icu_provider.proofs.numbering_system.NumberingSystem.try_from_str.Goals as goal

pub returns-then-not-is_name-clause-accepted : goal.returns-then-not-is_name-clause-accepted
returns-then-not-is_name-clause-accepted c = search rules

pub returns-then-not-is_name-clause-name : goal.returns-then-not-is_name-clause-name
returns-then-not-is_name-clause-name c = search rules

pub returns-clause-accepted : goal.returns-clause-accepted
returns-clause-accepted c = search rules

pub returns-clause-name : goal.returns-clause-name
returns-clause-name c = search rules
