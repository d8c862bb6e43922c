use Rattle.std.proofs.Common.{arith}
use Rattle.icu_decimal_symbols.proofs.SymbolDamage.{held_bytes, held_texts}
use Rattle.icu_decimal_symbols.proofs.symbols.DecimalSymbolsStrs.as_bytes.Goals as goal

pub returns-clause-valid : goal.returns-clause-valid
returns-clause-valid c = held_texts c.self.inside.bytes.items c.args.self.now c.self.invariant c.self.view_is

-- Goals that a search finds; it is not tried longer where one is false.

pub returns-clause-packed : goal.returns-clause-packed
returns-clause-packed c = grind (arith, held_bytes)
