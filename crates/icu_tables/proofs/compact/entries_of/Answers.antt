use Rattle.std.proofs.Common.{ℕ, drop, ◌+◌, [], ◌∷◌, ◌∙◌}
use Rattle.std.proofs.lemmas.Result.{err_from_is_err_and}
use Rattle.std.proofs.lemmas.List.{drop_all, map-append}
use Rattle.icu_decimal_data.specs.CompactTable.{PatternElements}
use Rattle.icu_decimal_data.specs.Kept.{as_table}
use Rattle.icu_tables.proofs.Maps.{entries_from, made_goes_on, made_fails, made_ends, given_entry, put_last, still_goes_on}
use Rattle.icu_tables.proofs.compact.entries_of.Goals as goal

pub returns-in_err-patterns : goal.returns-in_err-patterns
returns-in_err-patterns c =
    let p = err_from_is_err_and c.from_residual.result c.from_residual.ensures.1 in
    let v = c.index-entries-index in
    let i = c.loop-index.index in
    let inv = rw (entries_from c.args.entries.now i v.result v.is c.loop-index-test.true) at c.loop-index.invariant.0 in
    rw (p.1, p.2) (made_fails c.in_err-patterns.field-0.0 c.args.position (as_table c.loop-index.map.entries) v.result (drop (i + 1) c.args.entries.now) _
    c.in_err-patterns.ensures inv)

pub loop-index-preserved : goal.loop-index-preserved
loop-index-preserved c =
    let e = c.index-entries-index.result in
    let i = c.loop-index.index in
    let left = drop (i + 1) c.args.entries.now in
    let before = c.loop-index.map.entries in
    let v : ℕ × PatternElements = (e.exponent, c.in_ok-patterns.patterns) in
    let from = entries_from c.args.entries.now i e c.index-entries-index.is c.loop-index-test.true in
    let inv = rw from at c.loop-index.invariant.0 in
    let rises = rw from at c.loop-index.invariant.1 in
    let added = c.in_ok-with_entry.ensures.added ∙ put_last before e left v rises in
    let made = made_goes_on c.args.position (as_table before) e left c.in_ok-patterns.patterns _ c.in_ok-patterns.ensures inv in
    rw (added, map-append given_entry before ((e.log10_type, v) ∷ [])) (made, still_goes_on before e left v rises)

pub returns : goal.returns
returns c = made_ends c.args.position (as_table c.loop-index.map.entries) _
    (rw (drop_all c.loop-index.index c.args.entries.now c.loop-index-test.false) at c.loop-index.invariant.0)
