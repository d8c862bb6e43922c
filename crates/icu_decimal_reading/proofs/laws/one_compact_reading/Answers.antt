use Rattle.icu_decimal_reading.proofs.OneCompactReading.{one_compact}
use Rattle.icu_decimal_reading.proofs.laws.one_compact_reading.Goals as goal

pub returns : goal.returns
returns c = one_compact
