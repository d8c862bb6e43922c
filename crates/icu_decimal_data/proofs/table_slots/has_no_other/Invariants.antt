use Rattle.std.proofs.Common.{◌≡◌, ◌-◌, take, drop, is_none}
use Rattle.std.specs.List.{list_all}
use Rattle.icu_plurals.specs.Elements.{slots}
use Rattle.icu_decimal_data.specs.TableReading.{entry_of}
use Rattle.icu_decimal_data.proofs.table_slots.has_no_other.Given as goal

abbrev pub invariant-loop-slot : goal.invariant-loop-slot
invariant-loop-slot g l = list_all is_none (take (7 - l.slot) (drop l.slot (slots (entry_of l.bytes l.index).elements)))
    ≡ list_all is_none (take 7 (slots (entry_of l.bytes l.index).elements))
