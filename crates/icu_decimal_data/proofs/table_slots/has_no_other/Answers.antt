use Rattle.std.proofs.Common.{arith}
use Rattle.icu_plurals.specs.Elements.{slots}
use Rattle.icu_decimal_data.specs.TableReading.{entry_of}
use Rattle.icu_decimal_data.proofs.TableSlots.{sole_done}
use Rattle.icu_decimal_data.proofs.table_slots.has_no_other.Goals as goal

pub returns : goal.returns
returns g c = sole_done (slots (entry_of c.args.bytes.now c.args.index).elements) c.loop-slot.slot _ (omega arith) c.loop-slot.invariant
