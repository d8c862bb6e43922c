use Rattle.icu_decimal_reading.proofs.OneCompactReading.{compact_shown_read, compact_written_read}
use Rattle.icu_decimal_reading.proofs.laws.written_compact_is_read.Goals as goal

pub returns : goal.returns
returns c = record { given = compact_written_read; nearest = compact_shown_read }
