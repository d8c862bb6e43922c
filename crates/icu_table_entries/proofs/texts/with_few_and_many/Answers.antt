use Rattle.std.proofs.Common.{subst}
use Rattle.icu_table_entries.specs.CategoryTexts.{with_few_and_many}
use Rattle.icu_table_entries.specs.PatternTexts.{Texts}
use Rattle.icu_table_entries.specs.Reading.{Fails}
use Rattle.icu_table_entries.proofs.Pairs.{pair-fails}
use Rattle.icu_table_entries.proofs.texts.with_few_and_many.Goals as goal

pub returns-in-Err : goal.returns-in-Err
unfolding with_few_and_many
returns-in-Err c = subst (λ (t : Texts). Fails c.in-Err.error (with_few_and_many c.args.position t c.args.patterns)) c.texts.view_is
    (pair-fails c.in-Err.error _ _ (λ x y. record c.args.patterns { few = x; many = y }) c.in-Err.ensures)
