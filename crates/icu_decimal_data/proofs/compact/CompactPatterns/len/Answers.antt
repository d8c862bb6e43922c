-- Goals that a search finds; it is not tried longer where one is false.
use Rattle.std.proofs.Common.{arith}
use Rattle.icu_decimal_data.proofs.TableCalls.{calls}
use Rattle.icu_decimal_data.proofs.compact.CompactPatterns.len.Goals as goal

pub returns : goal.returns
returns g c = grind (arith, calls)
