use Rattle.std.proofs.Common.{◌++◌, ◌∙◌, ap, sym, take, drop, append_assoc, List, ℕ}
use Rattle.std.proofs.lemmas.List.{take-append-drop}
use Rattle.decimal_lines.proofs.Known.{Appends-then}
use Rattle.decimal_lines.proofs.writing.write_piece.Goals as goal

pub loop-rest-preserved : goal.loop-rest-preserved
loop-rest-preserved g c =
    let i = c.loop-rest.invariant in
    let n = c.in-Ok.n in
    let rest = c.loop-rest.rest.now in (
      i.0 ++ take n rest,
      Appends-then _ _ _ _ _ i.1 c.in-Ok.ensures.bytes,
      i.2 ∙ ap (λ (k : List ℕ). i.0 ++ k) (sym (take-append-drop n rest)) ∙ sym (append_assoc i.0 (take n rest) (drop n rest))
          ∙ rw c.split_at.ensures.back,
    )
