use Rattle.std.proofs.Common.{arith, rules}
use Rattle.icu_plurals.proofs.BadRules.{read_more, none_more}
use Rattle.std.proofs.lemmas.Grind.{common_steps}
use Rattle.icu_plurals.proofs.rules.read_rules.Goals as goal

pub loop-index-preserved : goal.loop-index-preserved
loop-index-preserved c = (
  read_more _ _ _ _ _ _ c.loop-index-test.true c.loop-index.invariant.0 c.in_ok-condition.ensures.read c.in_ok-push.ensures.items,
  none_more _ _ _ _ c.loop-index-test.true c.loop-index.invariant.1 c.in_ok-condition.ensures.read,
)

-- Goals that a search finds; it is not tried longer where one is false.
pub loop-index-init : goal.loop-index-init
loop-index-init c = search rules

pub returns-in_err-condition-clause-read : goal.returns-in_err-condition-clause-read
returns-in_err-condition-clause-read c = search rules

pub returns-in_err-condition-clause-memory : goal.returns-in_err-condition-clause-memory
returns-in_err-condition-clause-memory c = search rules

pub returns-in_err-push-clause-read : goal.returns-in_err-push-clause-read
returns-in_err-push-clause-read c = search rules

pub returns-in_err-push-clause-memory : goal.returns-in_err-push-clause-memory
returns-in_err-push-clause-memory c = search rules

pub returns-clause-read : goal.returns-clause-read
returns-clause-read c = grind (arith, common_steps)

pub returns-clause-memory : goal.returns-clause-memory
returns-clause-memory c = search rules
