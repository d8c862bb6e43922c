use Rattle.std.proofs.Common.{arith}
use Rattle.scaled_units.proofs.Shows.{unit_whole, unit_tenth}
use Rattle.scaled_units.proofs.showing.last_power.Goals as goal

pub returns-then-fraction-eq0 : goal.returns-then-fraction-eq0
returns-then-fraction-eq0 c = unit_whole c.args.fraction (omega arith)

pub returns : goal.returns
returns c = unit_tenth c.args.fraction (omega arith)
