use Rattle.std.proofs.Common.{◌≡◌, ◌+◌, ◌++◌, ◌∷◌, List, drop, get_or, add-one, sym, ap, ◌∙◌}
use Rattle.std.proofs.Math.Seq.{drop-cons}
use Rattle.icu_message.specs.declared.piece.Piece.{Piece}
use Rattle.icu_message.specs.declared.piece.Piece.TheVariants.{Byte}
use Rattle.icu_message.specs.Spelling.{said_all, spelling_from}
use Rattle.icu_message.proofs.SpellingSteps.{spelled_step}
use Rattle.icu_message.proofs.spelling.spell.Goals as goal

-- a piece is spelled, and then the rest
pub loop-piece-preserved : goal.loop-piece-preserved
loop-piece-preserved c =
    let ps : List Piece = c.args.pieces.now in
    let i = c.loop-piece.piece-index in
    let shifted : drop i ps ≡ get_or ps i (Byte 0) ∷ drop (i + 1) ps = rw add-one (drop-cons ps i (Byte 0) c.loop-piece-test.true) in
    rw (c.in_ok-piece.ensures, c.in_ok-lead.ensures, c.behind-before.ensures)
    (spelled_step c.args.text.now _ _ c.loop-piece.before c.loop-piece.out.items
    ∙ ap (λ (l : List Piece). c.loop-piece.out.items ++ spelling_from c.loop-piece.before (said_all c.args.text.now l)) (sym shifted)
    ∙ c.loop-piece.invariant)
