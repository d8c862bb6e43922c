use Rattle.icu_decimal_reading.proofs.OneReading.{one}
use Rattle.icu_decimal_reading.proofs.laws.one_reading.Goals as goal

pub returns : goal.returns
returns c = one
