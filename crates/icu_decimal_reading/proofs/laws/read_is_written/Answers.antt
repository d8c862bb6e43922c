use Rattle.icu_decimal_reading.proofs.OneReading.{read_written}
use Rattle.icu_decimal_reading.proofs.laws.read_is_written.Goals as goal

pub returns : goal.returns
returns c = read_written
