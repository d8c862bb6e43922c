use Rattle.std.proofs.Common.{◌≡◌, drop}
use Rattle.kept_messages.specs.Places.{place_from}
use Rattle.kept_messages.proofs.places.place_from.Given as goal

-- what is left has the answer
abbrev pub invariant-loop-piece : goal.invariant-loop-piece
invariant-loop-piece l = place_from l.left (drop l.piece-index l.pieces) ≡ place_from l.index l.pieces
