use Rattle.std.proofs.Common.{◌≡◌, inl, inr, List, ◌++◌, Bool, true, Result, Ok, Err, ap, sym, subst, ◌∙◌}
use Rattle.std.specs.Prelude.{◌≢◌, IfOk, OnOk}
use Rattle.std.specs.Result.{is_err}
use Rattle.std.proofs.lemmas.Result.{IfOk-weaker, on_ok_weaker}
use Rattle.writeable.specs.Events.{Event}
use Rattle.decimal_lines.specs.SingleText.{IsRefusal}
use Rattle.decimal_lines.specs.declared.single_text.TextError.{TextError}
use Rattle.decimal_lines.specs.declared.single_text.TextError.TheVariants.{OutOfMemory}
use Rattle.number_forms.specs.Decimals.{events_at}
use Rattle.number_forms.proofs.WrittenTexts.{form_events-at, form_events-refused}
use Rattle.locnum_explain.specs.Lines.{form_explanation, outcome_lines}
use Rattle.locnum_explain.proofs.explaining.explain.Goals as goal

-- where a text is rejected for another reason than memory, nothing else is shown of it
rejected-lines : {T E : Type 0} (result : Result T E) (shown : Result (List Event) TextError) (error : TextError)
    (Holds : Result (List Event) TextError → Type 0) → IsRefusal shown error → OnOk result (error ≢ OutOfMemory) → OnOk result (Holds (Err error))
    → OnOk result (Holds shown)
rejected-lines (Ok x) shown error Holds (inl memory) other holds = absurd (other memory)
rejected-lines (Ok x) shown error Holds (inr is) other holds = subst Holds (sym is) holds
rejected-lines (Err e) shown error Holds why other holds = tt

is-rejected : {E : Type 0} (result : Result Bool E) (shown : Result (List Event) TextError) (error : TextError) → IsRefusal shown error
    → OnOk result (error ≢ OutOfMemory) → IfOk result (λ r. r ≡ true) → IfOk result (λ r. r ≡ is_err shown)
is-rejected (Ok r) shown error (inl memory) other is = absurd (other memory)
is-rejected (Ok r) shown error (inr why) other is = is ∙ sym (ap is_err why)
is-rejected (Err e) shown error why other is = tt

pub returns-in-Ok-clause-lines : goal.returns-in-Ok-clause-lines
unfolding form_explanation
returns-in-Ok-clause-lines c =
    let form = c.args.form.now in
    let shown = form_events-at form c.args.text.now ∙ ap (events_at form.formatter) c.in-Ok.ensures.written in
    on_ok_weaker c.explain_prepared.result
    (λ e. e ∙ sym (ap (λ es. c.args.out.now.items ++ outcome_lines c.args.settings.now form c.args.text.now es) shown))
    c.explain_prepared.ensures.lines

pub returns-in-Ok-clause-refused : goal.returns-in-Ok-clause-refused
returns-in-Ok-clause-refused c =
    let form = c.args.form.now in
    let shown = form_events-at form c.args.text.now ∙ ap (events_at form.formatter) c.in-Ok.ensures.written in
    IfOk-weaker c.explain_prepared.result _ _ (λ r is. is ∙ sym (ap is_err shown)) c.explain_prepared.ensures.refused

pub returns-in-Err-clause-lines : goal.returns-in-Err-clause-lines
unfolding form_explanation
returns-in-Err-clause-lines c =
    rejected-lines c.push_rejected.result _ c.in-Err.error
    (λ es. c.push_rejected.new.out.items ≡ c.args.out.now.items ++ outcome_lines c.args.settings.now c.args.form.now c.args.text.now es)
    (form_events-refused c.args.form.now c.args.text.now c.in-Err.error c.in-Err.ensures.refused) c.push_rejected.ensures.reason
    c.push_rejected.ensures.appended

pub returns-in-Err-clause-refused : goal.returns-in-Err-clause-refused
returns-in-Err-clause-refused c = is-rejected c.push_rejected.result _ c.in-Err.error
    (form_events-refused c.args.form.now c.args.text.now c.in-Err.error c.in-Err.ensures.refused) c.push_rejected.ensures.reason
    c.push_rejected.ensures.rejected
