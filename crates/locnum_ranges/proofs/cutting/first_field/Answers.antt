use Rattle.std.proofs.Common.{sym, ◌∙◌}
use Rattle.locnum_ranges.specs.declared.cutting.Place.TheVariants.{Front}
use Rattle.locnum_ranges.proofs.Steps.{field_length-within, fields-ended, fields-more}
use Rattle.locnum_ranges.proofs.cutting.first_field.Goals as goal

pub split_at-requires : goal.split_at-requires
split_at-requires c = rw c.field_length.ensures (field_length-within c.args.delimiter Front c.args.line.now)

pub returns-then-is_empty-clause-fields : goal.returns-then-is_empty-clause-fields
returns-then-is_empty-clause-fields c =
    fields-ended c.args.delimiter c.args.line.now c.split_at.result.0.now c.split_at.result.1.now c.field_length.result c.field_length.ensures
    c.split_at.ensures.front c.split_at.ensures.back (sym c.is_empty.ensures ∙ c.if-is_empty.true)

pub returns-clause-fields : goal.returns-clause-fields
returns-clause-fields c =
    fields-more c.args.delimiter c.args.line.now c.split_at.result.0.now c.split_at.result.1.now c.field_length.result c.field_length.ensures
    c.split_at-2.result.0.now c.split_at-2.result.1.now c.split_at.ensures.front c.split_at.ensures.back
    (sym c.is_empty.ensures ∙ c.if-is_empty.false) c.split_at-2.ensures.front c.split_at-2.ensures.back
