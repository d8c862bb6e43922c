-- Goals that a search finds; it is not tried longer where one is false.
use Rattle.std.proofs.Common.{rules}
use Rattle.icu_decimal_symbols.proofs.decimal_symbols.DecimalSymbols.copy.Goals as goal

pub returns-in_err-copy-clause-copied : goal.returns-in_err-copy-clause-copied
returns-in_err-copy-clause-copied c = search rules

pub returns-in_err-copy-clause-memory : goal.returns-in_err-copy-clause-memory
returns-in_err-copy-clause-memory c = search rules

pub returns-clause-copied : goal.returns-clause-copied
returns-clause-copied c = search rules

pub returns-clause-memory : goal.returns-clause-memory
returns-clause-memory c = search rules
