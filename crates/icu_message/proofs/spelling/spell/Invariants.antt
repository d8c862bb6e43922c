use Rattle.std.proofs.Common.{◌≡◌, ◌++◌, drop}
use Rattle.icu_message.specs.Spelling.{said_all, spelling_from, spelling}
use Rattle.icu_message.proofs.spelling.spell.Given as goal

-- what is spelled with the spelling of the pieces that are left is that of all
abbrev pub invariant-loop-piece : goal.invariant-loop-piece
invariant-loop-piece l =
    l.out.items ++ spelling_from l.before (said_all l.text (drop l.piece-index l.pieces)) ≡ l.fn.out.items ++ spelling (said_all l.text l.pieces)
