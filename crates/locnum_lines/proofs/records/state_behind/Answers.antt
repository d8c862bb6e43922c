use Rattle.std.proofs.Common.{inl, inr, sym}
use Rattle.locnum_lines.proofs.States.{state-blanks, state-byte}
use Rattle.locnum_lines.proofs.records.state_behind.Goals as goal

pub returns-in-Blanks : goal.returns-in-Blanks
returns-in-Blanks c = elim c.in-Blanks.is [
  | inl e ↦ rw e (sym (state-blanks c.args.state c.args.bytes.now))
  | inr w ↦ rw w.1 (sym (state-byte w.0 c.args.state c.args.bytes.now))
]
