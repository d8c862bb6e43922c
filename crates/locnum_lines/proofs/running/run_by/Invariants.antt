use Rattle.std.proofs.Common.{◌≡◌, ℕ, List, [], false}
use Rattle.std.specs.Io.KnownBytes.{Consumes, prepend_known}
use Rattle.locnum_lines.specs.Records.{state_behind}
use Rattle.locnum_lines.specs.declared.cutting.FieldState.TheVariants.{Front}
use Rattle.locnum_lines.proofs.Runs.{Went}
use Rattle.locnum_lines.proofs.running.run_by.Given as goal

abbrev pub invariant-loop : goal.invariant-loop
invariant-loop g l = (got : List ℕ) × Consumes (prepend_known l.fn.rest (g.R.Read.remaining l.fn.reader))
    (prepend_known l.rest (g.R.Read.remaining l.reader)) got
    × Went l.settings l.form (g.W.Write.contents l.fn.writer) (g.W.Write.contents l.writer) (g.N.Write.contents l.fn.notes)
    (g.N.Write.contents l.notes) l.gathered got l.held.items
    × (l.gathered.output ≡ []) × (l.gathered.notes ≡ []) × (l.gathered.is_stopped ≡ false)
    × (l.state ≡ state_behind l.settings.delimiter Front l.held.items)
