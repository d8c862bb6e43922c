use Rattle.std.proofs.Common.{◌<◌, ◌≤◌, IsTrue, get_or, ℕ}
use Rattle.locnum_lines.proofs.padding.is_printable.Given as goal

-- where all so far were printable, each of them is
abbrev pub invariant-loop-byte : goal.invariant-loop-byte
invariant-loop-byte l = (k d : ℕ) → k < l.byte-index → IsTrue l.printable → (32 ≤ get_or l.text k d) × (get_or l.text k d ≤ 126)
