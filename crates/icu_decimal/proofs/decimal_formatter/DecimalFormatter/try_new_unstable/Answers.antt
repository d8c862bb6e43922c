-- Goals that a search finds; it is not tried longer where one is false.
use Rattle.std.proofs.Common.{rules}
use Rattle.icu_decimal.proofs.decimal_formatter.DecimalFormatter.try_new_unstable.Goals as goal

pub returns-in_err-symbols : goal.returns-in_err-symbols
returns-in_err-symbols g c = search rules

pub returns-in_err-digits : goal.returns-in_err-digits
returns-in_err-digits g c = search rules

pub returns : goal.returns
returns g c = search rules
