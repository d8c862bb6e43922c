-- Goals that a search finds; it is not tried longer where one is false.
use Rattle.std.proofs.Common.{arith, rules}
use Rattle.std.proofs.lemmas.Grind.{common_steps}
use Rattle.icu_decimal_data.proofs.fallback.load_with_fallback.Goals as goal

pub returns-in_default : goal.returns-in_default
returns-in_default g c = grind (arith, common_steps)

pub loop-id-init : goal.loop-id-init
loop-id-init g c = search rules

pub returns-in_default-load : goal.returns-in_default-load
returns-in_default-load g c = grind (arith, common_steps)

pub returns-in_default-load-2 : goal.returns-in_default-load-2
returns-in_default-load-2 g c = grind (arith, common_steps)

pub loop-id-preserved : goal.loop-id-preserved
loop-id-preserved g c = grind (arith, common_steps)

pub returns : goal.returns
returns g c = grind (arith, common_steps)
