use Rattle.std.proofs.Common.{◌≡◌, drop}
use Rattle.icu_message.specs.Signature.{kind_of_name}
use Rattle.icu_message.proofs.signature.kind_of_name.Given as goal

-- the pieces that are left have the answer
abbrev pub invariant-loop-piece : goal.invariant-loop-piece
invariant-loop-piece l = kind_of_name l.text l.name (drop l.piece-index l.pieces) ≡ kind_of_name l.text l.name l.pieces
