-- Counting places while the pieces of a message are passed.
use Rattle.std.specs.Prelude.{ℕ, List, [], ◌∷◌, Some, None}
use Rattle.icu_message.specs.declared.piece.Piece.{Piece}
use Rattle.icu_message.specs.declared.piece.Piece.TheVariants.{Place, Formatted, Hash, Choice, EndArm, EndChoice}
use Rattle.icu_message.specs.declared.places.Places.{Places}
use Rattle.icu_message.specs.declared.places.Around.{Around}
use Rattle.icu_message.specs.Places.{plus, none, with_place, joined, of_arms, is_named}

-- the places so far of the innermost message, and what is open around it, the innermost choice first
pub record Counted : Type 0 where
  pub places : Places
  pub around : List Around

-- at the end of an arm
abbrev pub arm_ended : Places → List Around → Counted
arm_ended c [] = record { places = none; around = [] }
arm_ended c (x ∷ xs) = record { places = none; around = record { before = x.before; arms = Some (joined x.arms c) } ∷ xs }

-- at the end of a choice
abbrev pub choice_ended : List Around → Counted
choice_ended [] = record { places = none; around = [] }
choice_ended (x ∷ xs) = record { places = plus x.before (of_arms x.arms); around = xs }

-- behind a piece
abbrev pub counted_behind : List ℕ → List ℕ → Counted → Piece → Counted
counted_behind text name s (Place w) = record { places = with_place (is_named text name w) s.places; around = s.around }
counted_behind text name s (Formatted w k) = record { places = with_place (is_named text name w) s.places; around = s.around }
counted_behind text name s (Hash w) = record { places = with_place (is_named text name w) s.places; around = s.around }
counted_behind text name s (Choice k w) = record { places = none; around = record { before = s.places; arms = None } ∷ s.around }
counted_behind text name s EndArm = arm_ended s.places s.around
counted_behind text name s EndChoice = choice_ended s.around
counted_behind text name s _ = s

-- behind pieces
abbrev pub counted_from : List ℕ → List ℕ → Counted → List Piece → Counted
counted_from text name s [] = s
counted_from text name s (p ∷ ps) = counted_from text name (counted_behind text name s p) ps

-- before all
abbrev pub nothing_counted : Counted
nothing_counted = record { places = none; around = [] }
