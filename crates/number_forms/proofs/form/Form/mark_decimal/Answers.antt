use Rattle.std.proofs.Common.{ap, sym, ◌∙◌}
use Rattle.writeable.specs.Annotated.{Annotated}
use Rattle.decimal_lines.proofs.EventsInto.{parts-held}
use Rattle.number_forms.specs.Forms.{FormData, formatter_events}
use Rattle.number_forms.proofs.form.Form.mark_decimal.Goals as goal

pub returns-clause-ok : goal.returns-clause-ok
returns-clause-ok c = ap (λ (f : FormData). formatter_events f.formatter c.args.decimal.now.sign c.args.decimal.now.absolute) (sym c.self.view_is)
    ∙ parts-held _ _ _ _ _ (ap (λ (a : Annotated). a.events) c.new-parts.ensures) c.in_ok-write_formatted_parts.was c.write_formatted_parts.ensures
