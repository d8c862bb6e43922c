use Rattle.std.proofs.Common.{◌≡◌, ◌-◌, ◌<◌, ◌≤◌, length, get_or, take, drop}
use Rattle.std.specs.Prelude.{IfSome, option_map}
use Rattle.locnum_lines.specs.Records.{in_front}
use Rattle.locnum_lines.specs.declared.cutting.FieldState.TheVariants.{Front}
use Rattle.locnum_lines.proofs.States.{or_behind}
use Rattle.locnum_lines.proofs.records.last_end.Given as goal

abbrev pub invariant-loop-index : goal.invariant-loop-index
invariant-loop-index l = (l.index ≤ length l.record) × IfSome l.found (λ n. n < l.index)
    × (in_front l.delimiter Front l.record ≡ or_behind (take l.index l.record)
    (option_map (λ n. (take n l.record, get_or l.record n 0)) l.found) (in_front l.delimiter l.state (drop l.index l.record)))

abbrev pub decreases-loop-index : goal.decreases-loop-index
decreases-loop-index l = length l.record - l.index
