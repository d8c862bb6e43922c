use Rattle.std.proofs.Common.{map, drop, get_or, ◌+◌}
use Rattle.std.proofs.lemmas.List.{drop_all}
use Rattle.std.proofs.lemmas.Result.{err_from_is_err_and}
use Rattle.icu_range_tables.specs.PluralRanges.{names_lent}
use Rattle.icu_range_tables.proofs.Triples.{no_names, range_fails, range_goes_on, ranges_end, triples_from}
use Rattle.icu_range_tables.proofs.plural_ranges.ranges_of.Goals as goal

pub returns-in_err-range_of : goal.returns-in_err-range_of
returns-in_err-range_of c =
    let p = err_from_is_err_and c.from_residual.result c.from_residual.ensures.1 in
    let i = c.loop-index.index in
    let ts = c.args.spelled.now in
    let inv = rw (triples_from ts i c.loop-index-test.true) at c.loop-index.invariant in
    rw (p.1, p.2) (range_fails c.args.position c.in_err-range_of.field-0.0 c.loop-index.found.items i (names_lent (get_or ts i no_names))
    (map names_lent (drop (i + 1) ts)) _ c.in_err-range_of.ensures inv)

pub loop-index-preserved : goal.loop-index-preserved
loop-index-preserved c =
    let i = c.loop-index.index in
    let ts = c.args.spelled.now in
    let inv = rw (triples_from ts i c.loop-index-test.true) at c.loop-index.invariant in
    rw c.in_ok-push.ensures.items (range_goes_on c.args.position c.loop-index.found.items i (names_lent (get_or ts i no_names))
    (map names_lent (drop (i + 1) ts)) c.in_ok-range_of.field-0 _ c.in_ok-range_of.ensures inv)

pub returns : goal.returns
returns c = ranges_end c.args.position c.loop-index.found.items c.loop-index.index _
    (rw (drop_all c.loop-index.index c.args.spelled.now c.loop-index-test.false) at c.loop-index.invariant)
