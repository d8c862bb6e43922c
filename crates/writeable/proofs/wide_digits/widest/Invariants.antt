use Rattle.std.proofs.Common.{◌<◌, ◌≤◌, get_or, ℕ}
use Rattle.writeable.proofs.wide_digits.widest.Given as goal

-- none of the characters so far has a greater code
abbrev pub invariant-loop-character : goal.invariant-loop-character
invariant-loop-character l = (k d : ℕ) → k < l.character-index → get_or l.characters k d ≤ l.greatest
