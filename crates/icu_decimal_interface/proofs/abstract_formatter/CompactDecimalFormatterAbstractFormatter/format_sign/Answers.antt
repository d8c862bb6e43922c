-- Goals that a search finds; it is not tried longer where one is false.
use Rattle.std.proofs.Common.{rules}
use Rattle.icu_decimal_interface.proofs.abstract_formatter.CompactDecimalFormatterAbstractFormatter.format_sign.Goals as goal

pub returns : goal.returns
returns g c = search rules
