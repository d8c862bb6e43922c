use Rattle.std.proofs.Common.{◌≡◌, Bool, true, false, length, refl, ap, sym, ◌∙◌}
use Rattle.std.specs.Str.{chars, is_utf8}
use Rattle.std.proofs.lemmas.Str.{IsUtf8-from_is_utf8, is_utf8-from_IsUtf8}
use Rattle.unicode_width.specs.Width.{str_width}
use Rattle.locnum_lines.proofs.Printable.{columns-printable}
use Rattle.locnum_lines.specs.Padding.{columns_of}
use Rattle.locnum_lines.proofs.padding.columns_of.Goals as goal

pub returns-in-Ok : goal.returns-in-Ok
unfolding columns_of
returns-in-Ok c =
    rw (is_utf8-from_IsUtf8 c.args.text.now c.in-Ok.ensures.cases.1)
    (c.width.ensures.value ∙ ap (λ k. str_width false (chars k)) c.in-Ok.ensures.cases.0)

pub returns-in-Err : goal.returns-in-Err
unfolding columns_of
returns-in-Err c = go (is_utf8 c.args.text.now) refl
  where
    go : (b : Bool) → is_utf8 c.args.text.now ≡ b → length c.args.text.now ≡ columns_of c.args.text.now
    go true e = absurd (c.in-Err.ensures.cases.0 (IsUtf8-from_is_utf8 c.args.text.now e))
    go false e = rw e refl

pub returns-then-is_printable : goal.returns-then-is_printable
returns-then-is_printable c = columns-printable c.args.text.now (c.is_printable.ensures c.if-is_printable.true)
