use Rattle.std.proofs.Common.{◌↔◌, All, Contains, length}
use Rattle.icu_dimension_data.proofs.comparing.are_free_of.Given as goal

-- what is left is free of the listed characters exactly where all is
abbrev pub invariant-loop-character : goal.invariant-loop-character
invariant-loop-character l = All (λ c. ¬ (Contains l.listed c)) l.characters ↔ All (λ c. ¬ (Contains l.listed c)) l.fn.characters

abbrev pub decreases-loop-character : goal.decreases-loop-character
decreases-loop-character l = length l.characters
