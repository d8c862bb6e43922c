use Rattle.std.proofs.Common.{List, sym, ap, ◌∙◌}
use Rattle.std.specs.Prelude.{map}
use Rattle.locnum_lines.specs.Fields.{Field}
use Rattle.locnum_lines.specs.Named.{column_from}
use Rattle.locnum_ranges.specs.Contents.{name_in}
use Rattle.locnum_ranges.proofs.Written.{column-here, column-later, column-none}
use Rattle.locnum_ranges.proofs.columns.column_named.Goals as goal

pub returns-then-branch : goal.returns-then-branch
returns-then-branch c =
    let i = rw c.in-Some.is at c.loop-next.invariant in
    sym (i
    ∙ ap (λ (k : List Field). column_from c.loop-next.index c.args.name.now (map (λ field. name_in c.args.delimiter field.text) k))
    c.first_field-first.ensures.fields
    ∙ column-here c.loop-next.index c.args.name.now _ _ (sym c.in_ok-is_named.ensures ∙ c.if-branch.true))

pub loop-next-preserved : goal.loop-next-preserved
loop-next-preserved c =
    let i = rw c.in-Some.is at c.loop-next.invariant in
    i
    ∙ ap (λ (k : List Field). column_from c.loop-next.index c.args.name.now (map (λ field. name_in c.args.delimiter field.text) k))
    c.first_field-first.ensures.fields
    ∙ column-later c.loop-next.index c.args.name.now _ _ c.in-Some-checked_add.following c.in-Some-checked_add.ensures.1
    (sym c.in_ok-is_named.ensures ∙ c.if-branch.false)

pub returns : goal.returns
returns c =
    let i = rw c.in_default.is at c.loop-next.invariant in
    sym (i ∙ column-none c.loop-next.index c.args.name.now)
