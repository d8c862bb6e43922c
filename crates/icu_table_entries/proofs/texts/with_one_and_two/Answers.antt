use Rattle.std.proofs.Common.{subst}
use Rattle.icu_table_entries.specs.CategoryTexts.{with_one_and_two}
use Rattle.icu_table_entries.specs.PatternTexts.{Texts}
use Rattle.icu_table_entries.specs.Reading.{Fails}
use Rattle.icu_table_entries.proofs.Pairs.{pair-fails}
use Rattle.icu_table_entries.proofs.texts.with_one_and_two.Goals as goal

pub returns-in-Err : goal.returns-in-Err
unfolding with_one_and_two
returns-in-Err c = subst (λ (t : Texts). Fails c.in-Err.error (with_one_and_two c.args.position t c.args.patterns)) c.texts.view_is
    (pair-fails c.in-Err.error _ _ (λ x y. record c.args.patterns { one = x; two = y }) c.in-Err.ensures)
