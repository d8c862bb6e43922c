use Rattle.std.proofs.Common.{◌≡◌, ◌++◌, ◌∷◌, [], List, ℕ, refl, sym, ap, ◌∙◌, append_assoc}
use Rattle.decimal_lines.proofs.Parts.{IsPartLine-front, IsPartLine-all, line_split}
use Rattle.decimal_lines.proofs.Fed.{Feeds-nothing, Feeds-then, Feeds-part}
use Rattle.decimal_lines.proofs.blocks.take_block.Goals as goal

pub loop-n-init : goal.loop-n-init
loop-n-init c = ([], refl, Feeds-nothing _ _ _ c.requires)

pub end_line-requires-clause-rest_part : goal.end_line-requires-clause-rest_part
end_line-requires-clause-rest_part c = rw c.split_at.ensures.front (IsPartLine-front c.loop-n.rest.now c.in-Some.n c.in-Some.ensures.0)

pub loop-n-preserved : goal.loop-n-preserved
loop-n-preserved c =
    let i = c.loop-n.invariant in
    let rest = c.loop-n.rest.now in
    let line = c.split_at.result.0.now in
    let later = c.split_at-in-Some.result.1.now in
    let e : rest ≡ (line ++ 10 ∷ []) ++ later = rw (c.split_at-in-Some.ensures.back, c.split_at.ensures.back, c.split_at.ensures.front)
    (line_split rest c.in-Some.n c.in-Some.ensures.0 c.in-Some.ensures.1) in (
      i.0 ++ (line ++ 10 ∷ []),
      i.1 ∙ ap (λ (k : List ℕ). i.0 ++ k) e ∙ sym (append_assoc i.0 (line ++ 10 ∷ []) later),
      Feeds-then _ _ _ _ _ i.0 _ (line ++ 10 ∷ []) _ i.2 c.in_ok-end_line.ensures,
    )

pub returns : goal.returns
returns c =
    let i = c.loop-n.invariant in
    let rest = c.loop-n.rest.now in
    rw (i.1, c.in_ok-extend_from_slice.ensures.items) (Feeds-then _ _ _ _ _ i.0 _ rest _ i.2
    (Feeds-part _ _ _ rest i.2.is_part (IsPartLine-all rest c.in_default.ensures)))
