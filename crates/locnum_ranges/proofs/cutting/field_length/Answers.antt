use Rattle.std.proofs.Common.{sym, ◌∙◌, arith}
use Rattle.locnum_ranges.proofs.Steps.{field_length-end, field_length-past, field_length-step}
use Rattle.locnum_ranges.proofs.cutting.field_length.Goals as goal

pub loop-length-preserved : goal.loop-length-preserved
loop-length-preserved c =
    let i = c.loop-length.invariant in
    let more = field_length-step c.args.delimiter c.loop-length.place c.args.line.now c.loop-length.length c.loop-length-test.true
    (sym c.ends_field.ensures ∙ c.if-not-ends_field.true) in
    (omega (arith, c.loop-length-test.true), rw c.next_place-place.ensures (omega (arith, i.1, more)))

pub returns-else-not-ends_field : goal.returns-else-not-ends_field
returns-else-not-ends_field c =
    let i = c.loop-length.invariant in
    let end = field_length-end c.args.delimiter c.loop-length.place c.args.line.now c.loop-length.length c.loop-length-test.true
    (sym c.ends_field.ensures ∙ c.if-not-ends_field.false) in
    omega (arith, i.1, end)

pub returns-after-loop-length : goal.returns-after-loop-length
returns-after-loop-length c =
    let i = c.loop-length.invariant in
    omega (arith, i.1, field_length-past c.args.delimiter c.loop-length.place c.args.line.now c.loop-length.length c.loop-length-test.false)
