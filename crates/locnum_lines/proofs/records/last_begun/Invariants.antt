use Rattle.std.proofs.Common.{◌≡◌, drop}
use Rattle.locnum_lines.specs.Records.{last_begun}
use Rattle.locnum_lines.specs.declared.cutting.FieldState.TheVariants.{Front}
use Rattle.locnum_lines.proofs.records.last_begun.Given as goal

abbrev pub invariant-loop-byte : goal.invariant-loop-byte
invariant-loop-byte l = last_begun l.delimiter l.end Front l.first l.first l.record ≡
    last_begun l.delimiter l.end l.state l.begun l.line (drop l.byte-index l.record)
