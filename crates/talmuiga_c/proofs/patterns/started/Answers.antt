use Rattle.std.proofs.Common.{Result, ap, subst}
use Rattle.icu_provider.specs.Answer.{Answers}
use Rattle.icu_provider.specs.declared.error.DataError.{DataError}
use Rattle.icu_ranges.specs.Separator.{Separator}
use Rattle.number_forms.specs.Making.{started}
use Rattle.talmuiga_c.proofs.Patterned.{answer-stops}
use Rattle.talmuiga_c.proofs.patterns.started.Goals as goal

pub returns-in-Ok : goal.returns-in-Ok
returns-in-Ok c = λ answer is. ap started (subst (λ (r : Result Separator DataError). Answers r answer) c.in-Ok.is is)

pub returns-in-Err : goal.returns-in-Err
returns-in-Err c = λ answer is. rw c.start_error.ensures
    (answer-stops c.in-Err.error.kind c.in-Err.error.context.now answer
    (subst (λ (r : Result Separator DataError). Answers r answer) c.in-Err.is is))
