use Rattle.std.proofs.Common.{◌≡◌, ◌+◌, ◌*◌, ◌≤◌}
use Rattle.icu_decimal_symbols.specs.SymbolBytes.{text_start}
use Rattle.icu_decimal_symbols.proofs.symbol_bytes.start_of.Given as goal

abbrev pub invariant-loop-i : goal.invariant-loop-i
invariant-loop-i l = (l.start ≡ text_start l.bytes l.i) × (l.start ≤ 7 + 255 * l.i)
