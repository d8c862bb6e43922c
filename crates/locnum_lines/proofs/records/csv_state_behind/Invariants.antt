use Rattle.std.proofs.Common.{◌≡◌, ◌-◌, ◌≤◌, length, drop}
use Rattle.locnum_lines.specs.Records.{state_behind}
use Rattle.locnum_lines.specs.declared.settings.Delimiter.TheVariants.{Csv}
use Rattle.locnum_lines.proofs.records.csv_state_behind.Given as goal

abbrev pub invariant-loop-index : goal.invariant-loop-index
invariant-loop-index l = (l.index ≤ length l.bytes)
    × (state_behind (Csv l.delimiter) l.fn.before l.bytes ≡ state_behind (Csv l.delimiter) l.state (drop l.index l.bytes))

abbrev pub decreases-loop-index : goal.decreases-loop-index
decreases-loop-index l = length l.bytes - l.index
