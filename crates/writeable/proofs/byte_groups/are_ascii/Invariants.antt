use Rattle.std.proofs.Common.{◌<◌, IsTrue, get_or, ℕ}
use Rattle.writeable.proofs.byte_groups.are_ascii.Given as goal

-- where all so far were ASCII, each of them is
abbrev pub invariant-loop-character : goal.invariant-loop-character
invariant-loop-character l = (k d : ℕ) → k < l.character-index → IsTrue l.ascii → get_or l.characters k d < 128
