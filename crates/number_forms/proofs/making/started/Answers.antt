use Rattle.std.proofs.Common.{Result, ap, subst}
use Rattle.icu_provider.specs.Answer.{Answers}
use Rattle.icu_provider.specs.declared.error.DataError.{DataError}
use Rattle.number_formatters.specs.declared.formatter.LoadedFormatter.{LoadedFormatter}
use Rattle.number_forms.specs.Making.{form_started}
use Rattle.number_forms.proofs.Served.{refuses-stops}
use Rattle.number_forms.proofs.making.started.Goals as goal

pub returns-in-Ok : goal.returns-in-Ok
returns-in-Ok c = λ answer is. rw c.form_with.ensures
    (ap (form_started c.args.settings.now) (subst (λ (r : Result LoadedFormatter DataError). Answers r answer) c.in-Ok.is is))

pub returns-in-Err : goal.returns-in-Err
returns-in-Err c = λ answer is. rw c.start_error.ensures
    (refuses-stops c.args.settings.now c.in-Err.error.kind c.in-Err.error.context.now answer
    (subst (λ (r : Result LoadedFormatter DataError). Answers r answer) c.in-Err.is is))
