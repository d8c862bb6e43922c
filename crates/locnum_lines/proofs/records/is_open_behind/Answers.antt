use Rattle.std.proofs.Common.{inl, inr, sym, ap, ◌∙◌}
use Rattle.locnum_lines.specs.Fields.{is_quoted}
use Rattle.locnum_lines.proofs.States.{state-blanks, state-byte}
use Rattle.locnum_lines.proofs.records.is_open_behind.Goals as goal

pub returns-in-Blanks : goal.returns-in-Blanks
returns-in-Blanks c = c.is_quoted.ensures ∙ elim c.in-Blanks.is [
  | inl e ↦ rw e (ap is_quoted (sym (state-blanks c.args.state c.args.bytes.now)))
  | inr w ↦ rw w.1 (ap is_quoted (sym (state-byte w.0 c.args.state c.args.bytes.now)))
]
