use Rattle.std.proofs.Common.{rules, sym, ◌∙◌}
use Rattle.std.specs.Cmp.Lexicographic.{bytes_decides}
use Rattle.test_callers.proofs.decimal.told.have_one_text.Goals as goal

pub returns : goal.returns
returns c h =
    c.text_tells_the_decimal.ensures.texts c.args.formatter.now _ _ _ _ _ _ (c.is_readable.ensures.0 (search rules)) c.is_zero.ensures.valid
    c.is_zero-2.ensures.valid
    c.in-Ok.ensures.text c.in-Ok-format_to_string.ensures.text ((bytes_decides _ _).0 (sym c.eq.ensures ∙ h))
