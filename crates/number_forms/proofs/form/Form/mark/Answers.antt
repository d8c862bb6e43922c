use Rattle.std.proofs.Common.{ap}
use Rattle.writeable.specs.Annotated.{Annotated}
use Rattle.decimal_lines.proofs.EventsInto.{parts-held}
use Rattle.number_forms.proofs.form.Form.mark.Goals as goal

pub returns-clause-ok : goal.returns-clause-ok
returns-clause-ok c = parts-held _ _ _ _ _ (ap (λ (a : Annotated). a.events) c.new-parts.ensures) c.in_ok-write_parts.was c.write_parts.ensures
