use Rattle.std.proofs.Common.{rules}
use Rattle.decimal_lines.proofs.EventsInto.{sink-writes}
use Rattle.number_forms.proofs.writing.write_formatted_parts.Goals as goal

pub returns : goal.returns
returns g c = sink-writes _ _ _ _ (λ o. o.sink) _ _ _ _ _ (search rules) c.write_formatted-result.ensures
