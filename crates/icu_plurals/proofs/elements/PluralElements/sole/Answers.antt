-- Goals that a search finds; it is not tried longer where one is false.
use Rattle.std.proofs.Common.{rules}
use Rattle.icu_plurals.proofs.elements.PluralElements.sole.Goals as goal

pub returns-then-large-clause-value : goal.returns-then-large-clause-value
returns-then-large-clause-value g c = search rules

pub returns-then-large-clause-only : goal.returns-then-large-clause-only
returns-then-large-clause-only g c = search rules

pub returns-then-large-clause-none : goal.returns-then-large-clause-none
returns-then-large-clause-none g c = search rules

pub returns-then-large-clause-selected : goal.returns-then-large-clause-selected
returns-then-large-clause-selected g c = search rules

pub returns-else-large-clause-value : goal.returns-else-large-clause-value
returns-else-large-clause-value g c = search rules

pub returns-else-large-clause-only : goal.returns-else-large-clause-only
returns-else-large-clause-only g c = search rules

pub returns-else-large-clause-none : goal.returns-else-large-clause-none
returns-else-large-clause-none g c = search rules

pub returns-else-large-clause-selected : goal.returns-else-large-clause-selected
returns-else-large-clause-selected g c = search rules
