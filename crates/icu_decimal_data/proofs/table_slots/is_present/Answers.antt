use Rattle.icu_decimal_data.proofs.TableSlots.{present_is}
use Rattle.icu_decimal_data.proofs.table_slots.is_present.Goals as goal

pub returns : goal.returns
returns g c = present_is g.P.PatternBackend.accepted c.args.bytes.now c.args.index c.args.slot c.requires.table c.requires.inside c.requires.slot
    c.slot_of.result.now c.slot_of.ensures.bytes
