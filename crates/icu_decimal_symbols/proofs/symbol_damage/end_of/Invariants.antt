use Rattle.std.proofs.Common.{◌≡◌, ◌≤◌, take, drop}
use Rattle.std.specs.Prelude.{sum}
use Rattle.icu_decimal_symbols.specs.SymbolBytes.{first_passing}
use Rattle.icu_decimal_symbols.proofs.symbol_damage.end_of.Given as goal

abbrev pub invariant-loop-i : goal.invariant-loop-i
invariant-loop-i l = (l.total ≡ sum (take l.i l.bytes)) × (l.total ≤ 255)
    × (first_passing l.i l.total (drop l.i (take 7 l.bytes)) ≡ first_passing 0 0 (take 7 l.bytes))
