-- Goals that a search finds; it is not tried longer where one is false.
use Rattle.std.proofs.Common.{rules}
use Rattle.icu_decimal_data.specs.TableReading.{table_step, record_step, slot_step}
use Rattle.icu_decimal_data.proofs.table_damage.check.Goals as goal

pub returns-then-bytes-lt-HEAD_LEN : goal.returns-then-bytes-lt-HEAD_LEN
unfolding slot_step record_step table_step
returns-then-bytes-lt-HEAD_LEN g c = search rules

pub returns-then-count-gt-MAX_ENTRIES : goal.returns-then-count-gt-MAX_ENTRIES
unfolding slot_step record_step table_step
returns-then-count-gt-MAX_ENTRIES g c = search rules

pub returns-then-bytes-pool_start : goal.returns-then-bytes-pool_start
unfolding slot_step record_step table_step
returns-then-bytes-pool_start g c = search rules
