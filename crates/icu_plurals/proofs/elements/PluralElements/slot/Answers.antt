-- Goals that a search finds; it is not tried longer where one is false.
use Rattle.std.proofs.Common.{rules}
use Rattle.icu_plurals.proofs.elements.PluralElements.slot.Goals as goal

pub returns-in-0 : goal.returns-in-0
returns-in-0 g c = search rules

pub returns-in-1 : goal.returns-in-1
returns-in-1 g c = search rules

pub returns-in-2 : goal.returns-in-2
returns-in-2 g c = search rules

pub returns-in-3 : goal.returns-in-3
returns-in-3 g c = search rules

pub returns-in-4 : goal.returns-in-4
returns-in-4 g c = search rules

pub returns-in-5 : goal.returns-in-5
returns-in-5 g c = search rules

pub returns-in-6 : goal.returns-in-6
returns-in-6 g c = search rules

pub returns-in_default : goal.returns-in_default
returns-in_default g c = search rules
