-- Goals that a search finds; it is not tried longer where one is false.
use Rattle.std.proofs.Common.{rules}
use Rattle.icu_plurals.proofs.elements.PluralElementsPartialEq.eq.Goals as goal

pub returns-then-eq : goal.returns-then-eq
returns-then-eq g c = search rules

pub returns-else-eq : goal.returns-else-eq
returns-else-eq g c = search rules
