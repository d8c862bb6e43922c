use Rattle.std.proofs.Common.{◌≡◌, ◌+◌, ◌-◌, ◌≤◌, length, drop}
use Rattle.locnum_ranges.specs.Fields.{field_length}
use Rattle.locnum_ranges.specs.declared.cutting.Place.TheVariants.{Front}
use Rattle.locnum_ranges.proofs.cutting.field_length.Given as goal

abbrev pub invariant-loop-length : goal.invariant-loop-length
invariant-loop-length l = (l.length ≤ length l.line) × (field_length l.delimiter Front l.line
    ≡ l.length + field_length l.delimiter l.place (drop l.length l.line))

abbrev pub decreases-loop-length : goal.decreases-loop-length
decreases-loop-length l = length l.line - l.length
