use Rattle.icu_decimal_data.specs.TableReading.{pattern_in}
use Rattle.icu_decimal_data.proofs.RecordRepeats.{good_is}
use Rattle.icu_decimal_data.proofs.table_damage.is_slot_good.Goals as goal

pub returns : goal.returns
returns g c = good_is g.P.PatternBackend.accepted (pattern_in c.args.pool.now c.args.slot.now) _ _ _ c.placeholder_of.ensures c.literal_of.ensures
    c.is_good_pattern.ensures
