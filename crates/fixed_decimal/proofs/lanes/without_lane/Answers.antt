use Rattle.std.proofs.Common.{arith}
use Rattle.fixed_decimal.proofs.LaneMoves.{without_lane_at}
use Rattle.fixed_decimal.proofs.lanes.without_lane.Goals as goal

pub returns : goal.returns
returns c = without_lane_at c.args.lane c.args.lanes c.requires (omega arith)
