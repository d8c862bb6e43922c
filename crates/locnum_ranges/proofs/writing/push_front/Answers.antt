use Rattle.std.proofs.Common.{List, ap, ◌∙◌, arith}
use Rattle.locnum_lines.specs.Fields.{Field}
use Rattle.locnum_ranges.specs.Written.{front_written}
use Rattle.locnum_ranges.proofs.Written.{front-ended, front-more, front-none, front-past, two-more}
use Rattle.locnum_ranges.proofs.writing.push_front.Goals as goal

pub returns-then-index-first : goal.returns-then-index-first
returns-then-index-first c =
    let i = rw c.in-Some.is at c.loop-next.invariant in
    front-ended c.min-first.result _ c.loop-next.index _ _ _ _ c.min-first.ensures i
    (front-past c.min-first.result c.loop-next.index _ c.if-index-first.true)

pub loop-next-preserved : goal.loop-next-preserved
loop-next-preserved c =
    let i = rw c.in-Some.is at c.loop-next.invariant in
    two-more _ c.loop-next.out.items c.extend_from_slice.new.self.items c.extend_from_slice-in-Some.new.self.items _ _ _ _ i
    (ap (λ (k : List Field). front_written c.min-first.result c.loop-next.index k) c.first_field-field.ensures.fields
    ∙ front-more c.min-first.result c.loop-next.index _ _ c.in-Some-checked_add.following c.in-Some-checked_add.ensures.1
    (omega (arith, c.if-index-first.false)))
    c.in_ok-extend_from_slice.ensures.items c.in_ok-extend_from_slice-2.ensures.items

pub returns : goal.returns
returns c =
    let i = rw c.in_default.is at c.loop-next.invariant in
    front-ended c.min-first.result _ c.loop-next.index _ _ _ _ c.min-first.ensures i (front-none c.min-first.result c.loop-next.index)
