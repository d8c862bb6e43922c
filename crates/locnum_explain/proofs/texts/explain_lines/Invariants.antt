use Rattle.std.proofs.Common.{drop}
use Rattle.locnum_explain.proofs.Lines.{Explains, texts}
use Rattle.locnum_explain.proofs.texts.explain_lines.Given as goal

abbrev pub invariant-loop-line : goal.invariant-loop-line
invariant-loop-line l = Explains l.settings l.stops l.form l.fn.out.items l.out.items l.is_refused (texts l.lines) (drop l.line-index (texts l.lines))
