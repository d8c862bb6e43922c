use Rattle.std.proofs.Common.{◌≡◌, ◌+◌, ◌-◌, ◌≤◌, length, drop}
use Rattle.locnum_lines.specs.Fields.{field_length}
use Rattle.locnum_lines.specs.declared.cutting.FieldState.TheVariants.{Front}
use Rattle.locnum_lines.specs.declared.settings.Delimiter.TheVariants.{Csv}
use Rattle.locnum_lines.proofs.cutting.csv_field_length.Given as goal

abbrev pub invariant-loop-length : goal.invariant-loop-length
invariant-loop-length l = (l.length ≤ length l.line) × (field_length (Csv l.delimiter) Front l.line
    ≡ l.length + field_length (Csv l.delimiter) l.state (drop l.length l.line))

abbrev pub decreases-loop-length : goal.decreases-loop-length
decreases-loop-length l = length l.line - l.length
