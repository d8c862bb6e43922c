-- Goals that a search finds; it is not tried longer where one is false.
use Rattle.std.proofs.Common.{rules}
use Rattle.icu_decimal_symbols.proofs.symbol_bytes.pack.Goals as goal

pub returns-in_err-bytes-clause-items : goal.returns-in_err-bytes-clause-items
returns-in_err-bytes-clause-items c = search rules

pub returns-in_err-bytes-clause-texts : goal.returns-in_err-bytes-clause-texts
returns-in_err-bytes-clause-texts c = search rules

pub returns-clause-items : goal.returns-clause-items
returns-clause-items c = search rules

pub returns-clause-texts : goal.returns-clause-texts
returns-clause-texts c = search rules
