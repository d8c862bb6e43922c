use Rattle.std.proofs.Common.{◌+◌, sym, ◌∙◌, arith}
use Rattle.std.proofs.lemmas.List.{drop-drop, length-drop}
use Rattle.locnum_lines.specs.declared.settings.Delimiter.TheVariants.{Csv}
use Rattle.locnum_lines.proofs.Feeding.{IsPartLine-all}
use Rattle.locnum_lines.proofs.States.{state-end, state-step}
use Rattle.locnum_lines.proofs.Skips.{slice-from}
use Rattle.locnum_lines.proofs.records.csv_state_behind.Goals as goal

pub state_behind_unquoted-requires : goal.state_behind_unquoted-requires
state_behind_unquoted-requires c = IsPartLine-all 34 c.args.bytes.now c.in_default.ensures

pub loop-index-preserved : goal.loop-index-preserved
loop-index-preserved c =
    let i = c.loop-index.invariant in
    let n = c.loop-index.index in
    let bytes = c.args.bytes.now in
    let at = slice-from bytes (n + 1) in
    let k = c.unchanging_length-index-in-loop-index.result in
    let within = rw at at c.unchanging_length-index-in-loop-index.ensures.within in
    let state = rw (at, c.csv_state_after-state.ensures, drop-drop k (n + 1) bytes) at c.unchanging_length-index-in-loop-index.ensures.state in (
      omega (arith, c.loop-index-test.true, within, length-drop (n + 1) bytes),
      rw c.csv_state_after-state.ensures (i.1 ∙ state-step (Csv c.args.delimiter) bytes n c.loop-index.state c.loop-index-test.true ∙ state),
    )

pub returns : goal.returns
returns c = sym (c.loop-index.invariant.1
    ∙ state-end (Csv c.args.delimiter) c.args.bytes.now c.loop-index.index c.loop-index.state c.loop-index-test.false)
