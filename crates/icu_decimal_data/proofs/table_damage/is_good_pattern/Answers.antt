-- Goals that a search finds; it is not tried longer where one is false.
use Rattle.std.proofs.Common.{arith}
use Rattle.icu_decimal_data.specs.TableReading.{table_step, record_step, slot_step}
use Rattle.icu_decimal_data.proofs.TableSteps.{steps}
use Rattle.icu_decimal_data.proofs.table_damage.is_good_pattern.Goals as goal

pub returns-in-Ok : goal.returns-in-Ok
unfolding slot_step record_step table_step
returns-in-Ok g c = grind (arith, steps)
