-- Goals that a search finds; it is not tried longer where one is false.
use Rattle.std.proofs.Common.{rules}
use Rattle.icu_decimal_symbols.proofs.decimal_symbols.DecimalSymbolsPartialEq.eq.Goals as goal

pub returns-then-eq-clause-computed : goal.returns-then-eq-clause-computed
returns-then-eq-clause-computed c = search rules

pub returns-then-eq-clause-same : goal.returns-then-eq-clause-same
returns-then-eq-clause-same c = search rules

pub returns-else-eq-clause-computed : goal.returns-else-eq-clause-computed
returns-else-eq-clause-computed c = search rules

pub returns-else-eq-clause-same : goal.returns-else-eq-clause-same
returns-else-eq-clause-same c = search rules
