-- Goals that a search finds; it is not tried longer where one is false.
use Rattle.std.proofs.Common.{rules}
use Rattle.icu_decimal_data.proofs.kept.stays.Goals as goal

pub returns-in-Some-default : goal.returns-in-Some-default
returns-in-Some-default g c = search rules

pub returns-in-None-Some : goal.returns-in-None-Some
returns-in-None-Some g c = search rules

pub returns-in-None-None : goal.returns-in-None-None
returns-in-None-None g c = search rules
