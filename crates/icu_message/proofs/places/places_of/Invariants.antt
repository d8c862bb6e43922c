use Rattle.std.proofs.Common.{◌≡◌, drop}
use Rattle.icu_message.specs.Counting.{counted_from, nothing_counted}
use Rattle.icu_message.proofs.places.places_of.Given as goal

-- what is counted with the pieces that are left is what is counted of all
abbrev pub invariant-loop-piece : goal.invariant-loop-piece
invariant-loop-piece l =
    counted_from l.text l.name l.counting (drop l.piece-index l.pieces) ≡ counted_from l.text l.name nothing_counted l.pieces
