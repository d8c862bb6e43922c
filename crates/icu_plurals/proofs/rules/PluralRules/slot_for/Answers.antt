-- Goals that a search finds; it is not tried longer where one is false.
use Rattle.std.proofs.Common.{arith, rules}
use Rattle.icu_plurals.proofs.SelectedSlots.{selected_slot_small}
use Rattle.icu_plurals.proofs.rules.PluralRules.slot_for.Goals as goal

pub returns-clause-slot : goal.returns-clause-slot
returns-clause-slot c = search rules

pub returns-clause-in_range : goal.returns-clause-in_range
returns-clause-in_range c = grind (arith, selected_slot_small)
