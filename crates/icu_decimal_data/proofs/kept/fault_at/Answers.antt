-- Goals that a search finds; it is not tried longer where one is false.
use Rattle.std.proofs.Common.{rules}
use Rattle.icu_decimal_data.proofs.kept.fault_at.Goals as goal

pub returns-then-exponent-log10_type : goal.returns-then-exponent-log10_type
returns-then-exponent-log10_type c = search rules
