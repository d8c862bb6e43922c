use Rattle.std.proofs.Common.{◌≡◌, length, sym, ◌∙◌, arith}
use Rattle.locnum_lines.specs.declared.cutting.FieldState.TheVariants.{Front}
use Rattle.locnum_lines.proofs.Cuts.{seam}
use Rattle.locnum_lines.proofs.FirstField.{field_length-within}
use Rattle.locnum_lines.proofs.Naming.{names-first, names-last}
use Rattle.locnum_lines.proofs.names.first_field.Goals as goal

pub split_at-requires : goal.split_at-requires
split_at-requires c = rw c.field_length.ensures (field_length-within c.args.delimiter Front c.args.line.now)

pub returns-in-None-clause-names : goal.returns-in-None-clause-names
returns-in-None-clause-names c =
    let whole : c.field_length.result ≡ length c.args.line.now =
    omega (arith, c.in-None.ensures.cases, c.split_at.ensures.back_len, c.split_at.ensures.front_len) in
    rw c.split_at.ensures.front (names-last c.args.delimiter c.args.line.now c.field_length.result c.field_length.ensures whole)

pub returns-in-Some-clause-names : goal.returns-in-Some-clause-names
returns-in-Some-clause-names c =
    let apart = seam c.args.line.now c.field_length.result _ c.in-Some.rest.now (sym c.split_at.ensures.back ∙ c.in-Some.ensures.cases.0) in
    rw (c.split_at.ensures.front, ← apart.2)
    (names-first c.args.delimiter c.args.line.now c.field_length.result c.field_length.ensures apart.0)
