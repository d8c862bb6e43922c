use Rattle.std.proofs.Common.{◌-◌, ◌≤◌, length}
use Rattle.std.specs.Io.KnownBytes.{Consumes}
use Rattle.locnum_lines.proofs.front.read_front.Given as goal

abbrev pub invariant-loop-reader : goal.invariant-loop-reader
invariant-loop-reader g l = Consumes (g.R.Read.remaining l.fn.reader) (g.R.Read.remaining l.reader) l.front.items × (length l.front.items ≤ 3)

abbrev pub decreases-loop-reader : goal.decreases-loop-reader
decreases-loop-reader g l = 3 - length l.front.items
