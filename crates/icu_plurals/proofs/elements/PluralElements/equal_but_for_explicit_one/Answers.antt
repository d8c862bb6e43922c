-- Goals that a search finds; it is not tried longer where one is false.
use Rattle.std.proofs.Common.{rules}
use Rattle.icu_plurals.proofs.elements.PluralElements.equal_but_for_explicit_one.Goals as goal

pub returns-then-eq-4 : goal.returns-then-eq-4
returns-then-eq-4 g c = search rules

pub returns-else-eq-4 : goal.returns-else-eq-4
returns-else-eq-4 g c = search rules
