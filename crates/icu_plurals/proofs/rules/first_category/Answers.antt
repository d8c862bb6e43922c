-- Goals that a search finds; it is not tried longer where one is false.
use Rattle.std.proofs.Common.{arith, rules}
use Rattle.std.proofs.lemmas.Grind.{common_steps}
use Rattle.icu_plurals.proofs.rules.first_category.Goals as goal

pub loop-rule-init : goal.loop-rule-init
loop-rule-init c = search rules

pub returns-then-condition_holds : goal.returns-then-condition_holds
returns-then-condition_holds c = grind (arith, common_steps)

pub loop-rule-preserved : goal.loop-rule-preserved
loop-rule-preserved c = grind (arith, common_steps)

pub returns : goal.returns
returns c = grind (arith, common_steps)
