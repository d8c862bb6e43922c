use Rattle.std.proofs.Common.{◌≡◌, drop}
use Rattle.kept_messages.specs.Picking.{picks_by_ordinals}
use Rattle.kept_messages.proofs.rules.picks_by_ordinals.Given as goal

-- what is left has the answer
abbrev pub invariant-loop-piece : goal.invariant-loop-piece
invariant-loop-piece l = picks_by_ordinals (drop l.piece-index l.pieces) ≡ picks_by_ordinals l.pieces
