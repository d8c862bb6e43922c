use Rattle.std.proofs.Common.{◌∙◌, sym, arith}
use Rattle.icu_dimension_tables.proofs.Repeated.{repeated_here, repeated_later, repeated_nowhere}
use Rattle.icu_dimension_tables.proofs.currency_compact.first_repeated.Goals as goal

pub returns-then-repeats : goal.returns-then-repeats
returns-then-repeats c =
    let e = c.index-entries-index in
    let before = c.index-entries-index-in-loop-index in
    repeated_here c.args.entries.now c.loop-index.index before.result e.result (omega arith) before.is e.is c.loop-index-test.true c.loop-index.invariant
    (sym c.if-repeats.true ∙ c.repeats.ensures)

pub loop-index-preserved : goal.loop-index-preserved
loop-index-preserved c =
    let e = c.index-entries-index in
    let before = c.index-entries-index-in-loop-index in
    repeated_later c.args.entries.now c.loop-index.index before.result e.result (omega arith) before.is e.is c.loop-index-test.true c.loop-index.invariant
    (sym c.if-repeats.false ∙ c.repeats.ensures)

pub returns : goal.returns
returns c = repeated_nowhere c.args.entries.now c.loop-index.index (omega (arith, c.loop-index-test.false)) c.loop-index.invariant
