use Rattle.std.proofs.Common.{drop, ◌+◌, None}
use Rattle.std.proofs.lemmas.List.{drop_all}
use Rattle.std.proofs.lemmas.Result.{err_from_is_err_and}
use Rattle.icu_dimension_tables.proofs.CompactRows.{rows_end, rows_fail, rows_go_on, rows_rise}
use Rattle.icu_dimension_tables.proofs.currency_compact.compact_rows_of.Goals as goal
use Rattle.icu_tables.proofs.Maps.{entries_from}

pub returns-in_err-row-clause-rows : goal.returns-in_err-row-clause-rows
returns-in_err-row-clause-rows c =
    let p = err_from_is_err_and c.from_residual.result c.from_residual.ensures.1 in
    let v = c.index-entries-index in
    let i = c.loop-index.index in
    let inv = rw (entries_from c.args.entries.now i v.result v.is c.loop-index-test.true) at c.loop-index.invariant in
    rw (p.1, p.2) (rows_fail c.args.position c.loop-index.found.items c.loop-index.before v.result (drop (i + 1) c.args.entries.now) _
    c.in_err-row.field-0.0 c.in_err-row.ensures inv)

pub loop-index-preserved : goal.loop-index-preserved
loop-index-preserved c =
    let v = c.index-entries-index in
    let i = c.loop-index.index in
    let inv = rw (entries_from c.args.entries.now i v.result v.is c.loop-index-test.true) at c.loop-index.invariant in
    rw c.in_ok-push.ensures.items (rows_go_on c.args.position c.loop-index.found.items c.loop-index.before v.result (drop (i + 1) c.args.entries.now) _
    c.in_ok-row.row c.in_ok-row.ensures inv)

pub returns : goal.returns
returns c =
    let read = rows_end c.args.position c.loop-index.found.items c.loop-index.before _
    (rw (drop_all c.loop-index.index c.args.entries.now c.loop-index-test.false) at c.loop-index.invariant) in
    record { rows = read; rise = rows_rise c.args.position 0 None c.args.entries.now c.loop-index.found.items read c.requires }
