use Rattle.std.proofs.Common.{◌+◌, sym, ◌∙◌, arith}
use Rattle.std.proofs.lemmas.List.{drop-drop, length-drop}
use Rattle.locnum_lines.specs.declared.settings.Delimiter.TheVariants.{Csv}
use Rattle.locnum_lines.proofs.Cuts.{field_length-end, field_length-past, field_length-step}
use Rattle.locnum_lines.proofs.Skips.{slice-from}
use Rattle.locnum_lines.proofs.cutting.csv_field_length.Goals as goal

pub loop-length-preserved : goal.loop-length-preserved
loop-length-preserved c =
    let i = c.loop-length.invariant in
    let n = c.loop-length.length in
    let line = c.args.line.now in
    let more = field_length-step (Csv c.args.delimiter) c.loop-length.state line n c.loop-length-test.true
    (sym c.ends_field.ensures ∙ c.if-not-ends_field.true) in
    let at = slice-from line (n + 1) in
    let k = c.unchanging_length-length.result in
    let within = rw at at c.unchanging_length-length.ensures.within in
    let field = rw (at, c.csv_state-state.ensures, drop-drop k (n + 1) line) at c.unchanging_length-length.ensures.field in (
      omega (arith, c.loop-length-test.true, within, length-drop (n + 1) line),
      rw c.csv_state-state.ensures (omega (arith, i.1, more, field)),
    )

pub returns-else-not-ends_field : goal.returns-else-not-ends_field
returns-else-not-ends_field c =
    let i = c.loop-length.invariant in
    let end = field_length-end (Csv c.args.delimiter) c.loop-length.state c.args.line.now c.loop-length.length c.loop-length-test.true
    (sym c.ends_field.ensures ∙ c.if-not-ends_field.false) in
    omega (arith, i.1, end)

pub returns-after-loop-length : goal.returns-after-loop-length
returns-after-loop-length c =
    let i = c.loop-length.invariant in
    omega (arith, i.1, field_length-past (Csv c.args.delimiter) c.loop-length.state c.args.line.now c.loop-length.length c.loop-length-test.false)
