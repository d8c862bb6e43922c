use Rattle.std.proofs.Common.{◌++◌, ◌+◌, ◌-◌, List, ℕ, length, take, drop, replicate}
use Rattle.fixed_decimal.proofs.ShortTexts.{without_point}
use Rattle.fixed_decimal.proofs.short_text.pointed.Goals as goal

pub joined-requires-2-clause-lanes : goal.joined-requires-2-clause-lanes
joined-requires-2-clause-lanes c =
    let rest : List ℕ = drop (length c.args.after.now) (drop (length c.args.before.now + 1) c.args.lanes) ++ take 1 c.args.lanes in
    (rest, without_point c.args.before.now c.args.after.now c.args.lanes _ c.without_lane.ensures c.requires.lanes c.requires.behind)

pub joined-requires-clause-lanes : goal.joined-requires-clause-lanes
joined-requires-clause-lanes c = (replicate (16 - (1 + length c.args.after.now)) 0, c.both_padded.ensures)
