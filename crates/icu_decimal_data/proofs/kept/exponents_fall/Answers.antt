-- Goals that a search finds; it is not tried longer where one is false.
use Rattle.std.proofs.Common.{rules}
use Rattle.icu_decimal_data.proofs.EntryFaults.{falls_after_nothing}
use Rattle.icu_decimal_data.proofs.kept.exponents_fall.Goals as goal

pub loop-value-init : goal.loop-value-init
loop-value-init g c = search (rules, falls_after_nothing)

pub returns-then-value-before : goal.returns-then-value-before
returns-then-value-before g c = search rules

pub loop-value-preserved : goal.loop-value-preserved
loop-value-preserved g c = search rules

pub returns : goal.returns
returns g c = search rules
