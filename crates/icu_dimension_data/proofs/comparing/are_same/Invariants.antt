use Rattle.std.proofs.Common.{◌≡◌, ◌↔◌, length}
use Rattle.icu_dimension_data.proofs.comparing.are_same.Given as goal

-- what is left is the same exactly where all is
abbrev pub invariant-loop-character : goal.invariant-loop-character
invariant-loop-character l = (l.one ≡ l.other) ↔ (l.fn.one ≡ l.fn.other)

abbrev pub decreases-loop-character : goal.decreases-loop-character
decreases-loop-character l = length l.one
