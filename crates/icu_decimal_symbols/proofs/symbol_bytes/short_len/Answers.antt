-- Goals that a search finds; it is not tried longer where one is false.
use Rattle.std.proofs.Common.{arith, rules}
use Rattle.std.proofs.lemmas.Grind.{common_steps}
use Rattle.icu_decimal_symbols.proofs.symbol_bytes.short_len.Goals as goal

pub loop-text-init : goal.loop-text-init
loop-text-init c = search rules

pub returns-then-text-len-clause-some : goal.returns-then-text-len-clause-some
returns-then-text-len-clause-some c = search rules

pub returns-clause-none : goal.returns-clause-none
returns-clause-none c = search rules

pub returns-then-text-len-clause-none : goal.returns-then-text-len-clause-none
returns-then-text-len-clause-none c = grind (arith, common_steps)

pub loop-text-preserved : goal.loop-text-preserved
loop-text-preserved c = grind (arith, common_steps)

pub returns-clause-some : goal.returns-clause-some
returns-clause-some c = grind (arith, common_steps)
