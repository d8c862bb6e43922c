use Rattle.std.proofs.Common.{◌≡◌, ◌++◌, ◌∷◌, [], drop, take, sym, ap, ◌∙◌, append_assoc, arith}
use Rattle.std.proofs.lemmas.List.{length-take-le}
use Rattle.locnum_lines.specs.Fields.{field_length}
use Rattle.locnum_lines.specs.declared.cutting.FieldState.TheVariants.{Front}
use Rattle.locnum_lines.specs.declared.settings.Delimiter.TheVariants.{Byte}
use Rattle.locnum_lines.proofs.Feeding.{IsPartLine-all, IsPartLine-front, line_split}
use Rattle.locnum_lines.proofs.Skips.{field_length-all, field_length-front}
use Rattle.locnum_lines.proofs.cutting.bytes_before.Goals as goal

pub returns-in-Some : goal.returns-in-Some
returns-in-Some c =
    let text = c.args.text.now in
    let byte = c.args.byte in
    let n = c.in-Some.n in
    let front = take n text in
    let rest = drop 1 (drop n text) in
    let is : text ≡ front ++ byte ∷ rest =
    line_split byte text n c.in-Some.ensures.0 c.in-Some.ensures.1 ∙ append_assoc front (byte ∷ []) rest in
    sym (ap (field_length (Byte byte) Front) is
    ∙ field_length-front byte Front front rest (IsPartLine-front byte text n c.in-Some.ensures.0)
    ∙ length-take-le n text (omega (arith, c.in-Some.ensures.0.high)))

pub returns-in-None : goal.returns-in-None
returns-in-None c = sym (field_length-all c.args.byte Front c.args.text.now (IsPartLine-all c.args.byte c.args.text.now c.in-None.ensures))
