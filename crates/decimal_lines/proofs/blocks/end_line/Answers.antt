use Rattle.std.proofs.Common.{◌≡◌, ◌++◌, ◌∷◌, [], List, ℕ, Some, length, arith, sym, ap, ◌∙◌, subst}
use Rattle.std.proofs.lemmas.Bool.{eqb-true}
use Rattle.decimal_lines.specs.LineResults.{text_result}
use Rattle.decimal_lines.specs.Lines.{line_output}
use Rattle.decimal_lines.specs.Written.{Feeds}
use Rattle.decimal_lines.proofs.Parts.{nothing_of}
use Rattle.decimal_lines.proofs.Fed.{Feeds-line}
use Rattle.decimal_lines.proofs.blocks.end_line.Goals as goal

pub returns-then-is_empty : goal.returns-then-is_empty
returns-then-is_empty c =
    let result = text_result c.args.mode.now in
    let held = c.args.held.now.items in
    let rest = c.args.rest.now in
    let none : length held ≡ 0 = omega (arith, c.args.held.now.ok.0, eqb-true _ 0 (sym c.if-is_empty.ensures)) in
    let is : held ≡ [] = nothing_of held none in
    let out = c.args.out.now.items in
    let same : rest ≡ held ++ rest = ap (λ (k : List ℕ). k ++ rest) (sym is) in
    let p : c.push_line.new.out.items ≡ out ++ line_output result (held ++ rest) =
    c.in_ok-push_line.ensures ∙ ap (λ (k : List ℕ). out ++ line_output result k) same in
    let f : Feeds result (Some out) (Some c.push_line.new.out.items) held (rest ++ 10 ∷ []) [] =
    Feeds-line result (Some out) (Some c.push_line.new.out.items) held rest c.requires.held_part c.requires.rest_part p in
    subst (λ (k : List ℕ). Feeds result (Some out) (Some c.push_line.new.out.items) held (rest ++ 10 ∷ []) k) (sym is) f

pub returns : goal.returns
returns c =
    let result = text_result c.args.mode.now in
    let held = c.args.held.now.items in
    let rest = c.args.rest.now in
    let out = c.args.out.now.items in
    let p : c.push_line-2.new.out.items ≡ out ++ line_output result (held ++ rest) =
    c.in_ok-push_line-2.ensures ∙ ap (λ (k : List ℕ). out ++ line_output result k)
    (c.deref.ensures.value ∙ c.in_ok-extend_from_slice.ensures.items) in
    rw c.clear.ensures.items (Feeds-line result (Some out) (Some c.push_line-2.new.out.items) held rest c.requires.held_part c.requires.rest_part p)
