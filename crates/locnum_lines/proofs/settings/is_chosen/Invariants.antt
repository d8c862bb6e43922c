use Rattle.std.proofs.Common.{◌≡◌, drop}
use Rattle.locnum_lines.specs.Settings.{is_chosen}
use Rattle.locnum_lines.proofs.settings.is_chosen.Given as goal

abbrev pub invariant-loop-range : goal.invariant-loop-range
invariant-loop-range l = is_chosen l.ranges l.index ≡ is_chosen (drop l.range-index l.ranges) l.index
