-- Goals that a search finds; it is not tried longer where one is false.
use Rattle.std.proofs.Common.{arith, rules}
use Rattle.icu_table_entries.specs.Named.{first_filed}
use Rattle.std.proofs.lemmas.Grind.{common_steps}
use Rattle.icu_table_entries.proofs.named.first_filed.Goals as goal

pub loop-entry-init : goal.loop-entry-init
unfolding first_filed
loop-entry-init g c = search rules

pub loop-entry-preserved : goal.loop-entry-preserved
unfolding first_filed
loop-entry-preserved g c = grind (arith, common_steps)

pub returns : goal.returns
unfolding first_filed
returns g c = grind (arith, common_steps)

pub returns-then-eq : goal.returns-then-eq
unfolding first_filed
returns-then-eq g c = grind (arith, common_steps)
