use Rattle.std.proofs.Common.{length}
use Rattle.talmuiga_c.specs.Answers.{form_result}
use Rattle.decimal_lines.proofs.FilledLines.{Fills}
use Rattle.talmuiga_c.proofs.form_lines.format_some_by.Given as goal

abbrev pub invariant-loop-left : goal.invariant-loop-left
invariant-loop-left l = Fills (form_result l.form) l.input l.left l.fn.output l.output l.written

abbrev pub decreases-loop-left : goal.decreases-loop-left
decreases-loop-left l = length l.left
