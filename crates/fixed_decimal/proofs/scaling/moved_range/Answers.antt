use Rattle.std.proofs.Common.{arith, rules}
use Rattle.std.proofs.lemmas.Int.{ints, clamps}
use Rattle.fixed_decimal.proofs.scaling.moved_range.Goals as goal

pub overflow_cast-result-3 : goal.overflow_cast-result-3
overflow_cast-result-3 c = (search (rules, arith, ints, clamps), record { fits = omega (arith, ints, clamps) })

pub returns-clause-front : goal.returns-clause-front
returns-clause-front c = omega (arith, ints, clamps)

pub returns-clause-back : goal.returns-clause-back
returns-clause-back c = omega (arith, ints, clamps)

pub returns-clause-scale : goal.returns-clause-scale
returns-clause-scale c = omega (arith, ints, clamps)

pub returns-clause-high : goal.returns-clause-high
returns-clause-high c = omega (arith, ints)

pub returns-clause-low : goal.returns-clause-low
returns-clause-low c = omega (arith, ints)
