use Rattle.icu_decimal_data.proofs.PackableTables.{packable_is_made}
use Rattle.icu_decimal_data.proofs.laws.packable_tables_are_made.Goals as goal

pub returns : goal.returns
returns c = packable_is_made
