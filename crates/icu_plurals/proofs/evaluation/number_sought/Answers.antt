-- Goals that a search finds; it is not tried longer where one is false.
use Rattle.std.proofs.Common.{rules}
use Rattle.icu_plurals.proofs.evaluation.number_sought.Goals as goal

pub returns-in-N : goal.returns-in-N
returns-in-N c = search rules

pub returns-in-N-2 : goal.returns-in-N-2
returns-in-N-2 c = search rules

pub returns : goal.returns
returns c = search rules
