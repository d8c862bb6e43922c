use Rattle.std.proofs.Common.{◌≡◌, sym, ap, ◌++◌, ◌∙◌, List, ℕ}
use Rattle.decimal_lines.specs.LineResults.{text_result}
use Rattle.decimal_lines.specs.Lines.{output_of, line_output}
use Rattle.decimal_lines.proofs.Parts.{output_of-part, output_of-none}
use Rattle.decimal_lines.proofs.Known.{Appends-nothing, AppendsBeginning-nothing, AppendsProperBeginning-is_beginning}
use Rattle.decimal_lines.proofs.running.finish.Goals as goal

pub returns-then-is_empty-clause-ok : goal.returns-then-is_empty-clause-ok
returns-then-is_empty-clause-ok g c = rw (output_of-none (text_result c.args.mode.now) c.args.held.now (sym c.if-is_empty.ensures)) (Appends-nothing _)

pub returns-in_default-clause-err : goal.returns-in_default-clause-err
returns-in_default-clause-err g c = AppendsBeginning-nothing _ _

pub returns-in-Ok-write_piece-clause-ok : goal.returns-in-Ok-write_piece-clause-ok
returns-in-Ok-write_piece-clause-ok g c =
    let result = text_result c.args.mode.now in
    let held = c.args.held.now in
    let e : c.deref.result.now ≡ output_of result held = c.deref.ensures.value ∙ c.in-Ok.ensures
    ∙ ap (λ (k : List ℕ). k ++ line_output result held) c.clear.ensures.items
    ∙ sym (output_of-part result held c.requires (sym c.if-is_empty.ensures)) in
    rw e at c.in-Ok-write_piece.ensures.ok

pub returns-in-Err-clause-err : goal.returns-in-Err-clause-err
returns-in-Err-clause-err g c =
    let result = text_result c.args.mode.now in
    let held = c.args.held.now in
    let e : c.deref.result.now ≡ output_of result held = c.deref.ensures.value ∙ c.in-Ok.ensures
    ∙ ap (λ (k : List ℕ). k ++ line_output result held) c.clear.ensures.items
    ∙ sym (output_of-part result held c.requires (sym c.if-is_empty.ensures)) in
    AppendsProperBeginning-is_beginning _ _ _ (rw e at c.in-Err.ensures.err)

pub returns-in-Err-clause-write : goal.returns-in-Err-clause-write
returns-in-Err-clause-write g c =
    let result = text_result c.args.mode.now in
    let held = c.args.held.now in
    let e : c.deref.result.now ≡ output_of result held = c.deref.ensures.value ∙ c.in-Ok.ensures
    ∙ ap (λ (k : List ℕ). k ++ line_output result held) c.clear.ensures.items
    ∙ sym (output_of-part result held c.requires (sym c.if-is_empty.ensures)) in
    λ _. rw e at c.in-Err.ensures.err
