use Rattle.std.proofs.Common.{◌≡◌, ◌++◌, ◌∙◌, ap, append_assoc, codes, subst, List, ℕ, rules, w32}
use Rattle.std.specs.Fmt.{HasWritten, HasWrittenStyled, decimal, signed_decimal}
use Rattle.icu_decimal.proofs.InlineWrites.{text_after_writes}
use Rattle.icu_decimal.specs.ExponentMismatch.{ExponentMismatch, mismatch_text}
use Rattle.icu_decimal.proofs.error.CompactExponentErrorDisplay.fmt.Goals as goal
use mir.Val.{to_z, of_z}

-- the pieces as a format literal joins them are the text
pieces_are_the_text : (m : ExponentMismatch) → codes "Expected compact exponent "
    ++ (decimal m.expected ++ (codes " for 10^" ++ (signed_decimal m.magnitude ++ (codes ", got " ++ decimal m.actual)))) ≡ mismatch_text m
pieces_are_the_text m = simp append_assoc

pub returns : goal.returns
returns g c =
    let same : to_z w32 (of_z w32 c.self.inside.magnitude) ≡ c.self.inside.magnitude = search rules in
    let written = text_after_writes _ _ _ c.in_ok-write.ensures.writes c.new-text.ensures.intact c.new-text.ensures.text in
    let pieces = pieces_are_the_text (record {
      actual = c.self.inside.actual;
      expected = c.self.inside.expected;
      magnitude =
          to_z w32 (of_z w32 c.self.inside.magnitude);
    }) in
    let view = ap (λ z. mismatch_text (record { actual = c.self.inside.actual; expected = c.self.inside.expected; magnitude = z })) same
    ∙ ap mismatch_text c.self.view_is in
    let text = c.as_str.ensures.value ∙ (written ∙ (pieces ∙ view)) in
    record {
      writes = λ plain ok. subst (λ (l : List ℕ). HasWritten g.W.Write.write_str_gives c.args.f.now l c.write_str.new.self) text
          (c.write_str.ensures.writes plain ok);
      styled = λ flush ok. subst (λ (l : List ℕ). HasWrittenStyled g.W.Write.write_str_gives c.args.f.now l c.write_str.new.self) text
          (c.write_str.ensures.styled flush ok);
    }
