use Rattle.std.proofs.Common.{◌∙◌, sym}
use Rattle.icu_decimal_data.proofs.RecordRepeats.{repeated_is}
use Rattle.icu_decimal_data.proofs.table_damage.is_repeating.Goals as goal

pub returns : goal.returns
returns c = c.are_slots_repeated.ensures ∙ sym (repeated_is c.args.pool.now c.args.before.now c.args.bytes.now)
