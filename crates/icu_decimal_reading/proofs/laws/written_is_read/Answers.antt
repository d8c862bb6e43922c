use Rattle.icu_decimal_reading.proofs.OneReading.{written_read}
use Rattle.icu_decimal_reading.proofs.laws.written_is_read.Goals as goal

pub returns : goal.returns
returns c = written_read
