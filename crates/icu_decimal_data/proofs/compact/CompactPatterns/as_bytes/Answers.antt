use Rattle.std.proofs.Common.{arith}
use Rattle.icu_decimal_data.proofs.PackedTables.{is_found}
use Rattle.icu_decimal_data.proofs.TableCalls.{calls}
use Rattle.icu_decimal_data.proofs.compact.CompactPatterns.as_bytes.Goals as goal

pub returns-clause-packable : goal.returns-clause-packable
returns-clause-packable g c = rw (← c.self.view_is) ((is_found g.P.PatternBackend.accepted c.self.inside.bytes.items c.self.invariant.are_bytes
    c.self.invariant.read).0)

-- Goals that a search finds; it is not tried longer where one is false.
pub returns-clause-bytes : goal.returns-clause-bytes
returns-clause-bytes g c = grind (arith, calls)
