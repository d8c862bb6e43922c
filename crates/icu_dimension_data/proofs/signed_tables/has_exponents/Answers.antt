use Rattle.std.proofs.Common.{◌+◌, ◌∙◌, drop, sym}
use Rattle.std.proofs.lemmas.List.{drop_all}
use Rattle.icu_dimension_data.proofs.SignedTables.{exponents_end, exponents_go_on, exponents_differ, rows_from}
use Rattle.icu_dimension_data.proofs.signed_tables.has_exponents.Goals as goal

pub returns-then-exponent_at-row : goal.returns-then-exponent_at-row
returns-then-exponent_at-row c =
    let row = c.index-rows-index.result in
    let i = c.loop-index.index in
    exponents_differ c.args.table.now c.args.rows.now (drop i c.args.rows.now) row (drop (i + 1) c.args.rows.now)
    (rows_from c.args.rows.now i row c.index-rows-index.is c.loop-index-test.true) (λ same. c.if-exponent_at-row.true (c.exponent_at.ensures ∙ same))
    c.loop-index.invariant

pub loop-index-preserved : goal.loop-index-preserved
loop-index-preserved c =
    let row = c.index-rows-index.result in
    let i = c.loop-index.index in
    exponents_go_on c.args.table.now c.args.rows.now (drop i c.args.rows.now) row (drop (i + 1) c.args.rows.now)
    (rows_from c.args.rows.now i row c.index-rows-index.is c.loop-index-test.true) (sym c.exponent_at.ensures ∙ c.if-exponent_at-row.false)
    c.loop-index.invariant

pub returns : goal.returns
returns c =
    exponents_end c.args.table.now c.args.rows.now (drop c.loop-index.index c.args.rows.now)
    (drop_all c.loop-index.index c.args.rows.now c.loop-index-test.false) c.loop-index.invariant
