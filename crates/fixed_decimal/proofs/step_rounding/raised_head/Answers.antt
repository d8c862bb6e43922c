use Rattle.std.proofs.Common.{arith}
use Rattle.fixed_decimal.proofs.Rounds.{raised, carried}
use Rattle.fixed_decimal.proofs.Rounded.{all_nines}
use Rattle.fixed_decimal.proofs.step_rounding.raised_head.Goals as goal

pub returns-then-left-eq0-clause-one_more : goal.returns-then-left-eq0-clause-one_more
returns-then-left-eq0-clause-one_more c =
    carried c.args.digits.now c.args.head (all_nines c.args.digits.now c.args.head c.args.left (omega arith) c.requires.nines)

pub returns-clause-one_more : goal.returns-clause-one_more
returns-clause-one_more c = raised c.args.digits.now c.args.head c.args.left (omega arith) c.requires.left (omega arith) c.requires.nines
