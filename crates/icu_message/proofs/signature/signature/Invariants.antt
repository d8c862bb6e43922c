use Rattle.std.proofs.Common.{◌≡◌, drop}
use Rattle.icu_message.specs.Signature.{signature_from, signature}
use Rattle.icu_message.proofs.signature.signature.Given as goal

-- the names with those of the pieces that are left are the names of all
abbrev pub invariant-loop-piece : goal.invariant-loop-piece
invariant-loop-piece l = signature_from l.text l.pieces l.names.items (drop l.piece-index l.pieces) ≡ signature l.text l.pieces
