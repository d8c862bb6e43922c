-- Goals that a search finds; it is not tried longer where one is false.
use Rattle.std.proofs.Common.{rules}
use Rattle.icu_decimal_symbols.proofs.decimal_symbols.DecimalSymbols.numsys.Goals as goal

pub returns-clause-text : goal.returns-clause-text
returns-clause-text c = search rules

pub returns-clause-valid : goal.returns-clause-valid
returns-clause-valid c = search rules
