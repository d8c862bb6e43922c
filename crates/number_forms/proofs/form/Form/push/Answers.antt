use Rattle.decimal_lines.proofs.EventsInto.{buffer-grows, buffer-refused, buffer-unchanged}
use Rattle.number_forms.proofs.form.Form.push.Goals as goal

pub returns-clause-ok : goal.returns-clause-ok
returns-clause-ok c = buffer-grows (λ v. v.items) _ _ _ _ c.write.ensures

pub returns-clause-refused : goal.returns-clause-refused
returns-clause-refused c = buffer-refused (λ v. v.items) _ _ _ _ c.write.ensures

pub returns-clause-unchanged : goal.returns-clause-unchanged
returns-clause-unchanged c = buffer-unchanged (λ v. v.items) _ _ _ _ c.write.ensures
