use Rattle.std.proofs.Common.{ℕ, List, []}
use Rattle.std.specs.Io.KnownBytes.{Consumes}
use Rattle.decimal_lines.specs.LineResults.{text_result}
use Rattle.decimal_lines.specs.Written.{Feeds}
use Rattle.decimal_lines.proofs.running.run_by.Given as goal

abbrev pub invariant-loop : goal.invariant-loop
invariant-loop g l = (got : List ℕ) × Consumes (g.R.Read.remaining l.fn.reader) (g.R.Read.remaining l.reader) got
    × Feeds (text_result l.mode) (g.W.Write.contents l.fn.writer) (g.W.Write.contents l.writer) [] got l.held.items
