-- Goals that a search finds; it is not tried longer where one is false.
use Rattle.std.proofs.Common.{rules}
use Rattle.icu_decimal_symbols.proofs.decimal_symbols.DecimalSymbols.minus_sign_prefix.Goals as goal

pub returns : goal.returns
returns c = search rules
