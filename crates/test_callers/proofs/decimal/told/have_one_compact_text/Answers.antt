use Rattle.std.proofs.Common.{rules, sym, ◌∙◌}
use Rattle.std.specs.Cmp.Lexicographic.{bytes_decides}
use Rattle.test_callers.proofs.OneSize.{of_same}
use Rattle.test_callers.proofs.decimal.told.have_one_compact_text.Goals as goal

pub returns : goal.returns
returns c h =
    let (x, m, es, first, one) = c.in-Ok.ensures.nearest in
    let (y, n, fs, second, other) = c.in-Ok-format_to_string.ensures.nearest in
    let told = c.compact_text_tells.ensures.texts _ _ _ _ _ x y m n es fs _ _ (c.is_readable.ensures.0 (search rules)) first second one other
    ((bytes_decides _ _).0 (sym c.eq.ensures ∙ h)) in
    (told.0, of_same _ _ _ _ _ x y m n es fs first second told.1 told.2)
