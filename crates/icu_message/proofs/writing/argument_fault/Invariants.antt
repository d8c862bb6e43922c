use Rattle.std.proofs.Common.{◌≡◌, drop}
use Rattle.icu_message.specs.Writing.{argument_fault}
use Rattle.icu_message.proofs.writing.argument_fault.Given as goal

-- the pieces that are left have the answer
abbrev pub invariant-loop-piece : goal.invariant-loop-piece
invariant-loop-piece l = argument_fault l.filling (drop l.piece-index l.pieces) ≡ argument_fault l.filling l.pieces
