-- Goals that a search finds; it is not tried longer where one is false.
use Rattle.std.proofs.Common.{rules}
use Rattle.icu_decimal.proofs.decimal_formatter.DecimalFormatter.format.Goals as goal

pub returns-clause-value : goal.returns-clause-value
returns-clause-value c = search rules

pub returns-clause-shown : goal.returns-clause-shown
returns-clause-shown c = search rules
