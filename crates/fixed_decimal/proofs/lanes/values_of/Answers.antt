use Rattle.std.proofs.Common.{refl}
use Rattle.fixed_decimal.proofs.LaneLemmas.{values_are}
use Rattle.fixed_decimal.proofs.lanes.values_of.Goals as goal

pub returns : goal.returns
returns c n digits = values_are _ refl c.args.lanes.now c.requires n digits
