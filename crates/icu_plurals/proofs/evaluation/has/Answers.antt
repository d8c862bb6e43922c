-- Goals that a search finds; it is not tried longer where one is false.
use Rattle.std.proofs.Common.{rules}
use Rattle.icu_plurals.proofs.evaluation.has.Goals as goal

pub returns-in-Value : goal.returns-in-Value
returns-in-Value c = search rules

pub returns-then-first-number : goal.returns-then-first-number
returns-then-first-number c = search rules

pub returns-else-first-number : goal.returns-else-first-number
returns-else-first-number c = search rules
