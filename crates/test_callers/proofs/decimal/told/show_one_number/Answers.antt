use Rattle.std.proofs.Common.{rules, sym, ◌∙◌}
use Rattle.std.specs.Cmp.Lexicographic.{bytes_decides}
use Rattle.test_callers.proofs.OneSize.{of_shown, shown_same}
use Rattle.test_callers.proofs.decimal.told.show_one_number.Goals as goal

pub returns : goal.returns
returns c =
    let (x, m, es, first, one) = c.in-Ok.ensures.nearest in
    let (y, n, fs, second, other) = c.in-Ok-format_to_string.ensures.nearest in
    let told = c.shown_again.ensures.texts _ _ _ _ _ x y m n es fs _ _ (c.is_readable.ensures.0 (search rules)) (c.is_unpadded.ensures (search rules))
    (c.is_unpadded-else-not-is_unpadded.ensures (search rules)) first second one other in
    let same = bytes_decides _ _ in (
      λ h. let both = told.0 (same.0 (sym c.eq.ensures ∙ h)) in (both.0, of_shown _ _ _ _ _ x y m n es fs first second both.1),
      λ both. c.eq.ensures ∙ same.1 (told.1 (both.0, shown_same _ _ _ _ _ x y m n es fs c.nearest_is_unique.ensures.nearest first second both.1)),
    )
