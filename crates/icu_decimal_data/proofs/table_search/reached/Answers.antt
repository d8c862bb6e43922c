-- Goals that a search finds; it is not tried longer where one is false.
use Rattle.std.proofs.Common.{rules}
use Rattle.icu_decimal_data.proofs.table_search.reached.Goals as goal

pub loop-low-init : goal.loop-low-init
loop-low-init c = search rules

pub loop-low-preserved : goal.loop-low-preserved
loop-low-preserved c = search rules

pub returns : goal.returns
returns c = search rules
