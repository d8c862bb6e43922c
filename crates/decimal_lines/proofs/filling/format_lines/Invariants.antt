use Rattle.std.proofs.Common.{length}
use Rattle.decimal_lines.specs.LineResults.{text_result}
use Rattle.decimal_lines.proofs.FilledLines.{Fills}
use Rattle.decimal_lines.proofs.filling.format_lines.Given as goal

abbrev pub invariant-loop-left : goal.invariant-loop-left
invariant-loop-left l = Fills (text_result l.mode) l.input l.left l.fn.output l.output l.written

abbrev pub decreases-loop-left : goal.decreases-loop-left
decreases-loop-left l = length l.left
