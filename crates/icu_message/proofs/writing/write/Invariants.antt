use Rattle.std.proofs.Common.{◌≡◌, ◌≤◌, ◌++◌, drop}
use Rattle.icu_message.specs.Writing.{written_from, written, depth}
use Rattle.icu_message.proofs.writing.write.Given as goal

-- what is written with what the pieces that are left write is what all write
abbrev pub invariant-loop-at : goal.invariant-loop-at
invariant-loop-at l =
    (l.out.items ++ written_from l.filling l.key l.mode (drop l.at l.pieces) ≡ l.fn.out.items ++ written l.filling l.pieces)
    × (depth l.mode ≤ l.at)
