use Rattle.icu_decimal_reading.proofs.OneCompactReading.{compact_read_written}
use Rattle.icu_decimal_reading.proofs.laws.read_compact_is_written.Goals as goal

pub returns : goal.returns
returns c = compact_read_written
