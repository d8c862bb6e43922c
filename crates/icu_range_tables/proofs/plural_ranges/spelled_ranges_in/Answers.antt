use Rattle.std.proofs.Common.{map, drop, ◌+◌, [], ◌∷◌}
use Rattle.std.proofs.lemmas.Result.{err_from_is_err_and}
use Rattle.std.proofs.lemmas.List.{drop_all, map-append}
use Rattle.serde_json.specs.View.{view}
use Rattle.icu_range_tables.specs.PluralRanges.{names_lent, spelled_range_in, spelled_ranges_in}
use Rattle.icu_range_tables.proofs.plural_ranges.spelled_ranges_in.Goals as goal
use Rattle.icu_table_entries.proofs.Lists.{goes_on, fails, ends, values_from}
use Rattle.icu_table_entries.specs.declared.error.Key.TheVariants.{Ranges}

pub returns-in_err-spelled_range_in : goal.returns-in_err-spelled_range_in
unfolding spelled_ranges_in
returns-in_err-spelled_range_in c =
    let p = err_from_is_err_and c.from_residual.result c.from_residual.ensures.1 in
    let v = c.index-values-index in
    let i = c.loop-index.index in
    let inv = rw (values_from c.args.values.now i v.result v.is c.loop-index-test.true) at c.loop-index.invariant in
    rw (p.1, p.2) (fails (λ position. spelled_range_in) Ranges c.in_err-spelled_range_in.field-0.0 (map names_lent c.loop-index.found.items) i (view v.result)
    (map view (drop (i + 1) c.args.values.now)) _ c.in_err-spelled_range_in.ensures inv)

pub loop-index-preserved : goal.loop-index-preserved
loop-index-preserved c =
    let v = c.index-values-index in
    let i = c.loop-index.index in
    let x = c.in_ok-spelled_range_in.field-0 in
    let inv = rw (values_from c.args.values.now i v.result v.is c.loop-index-test.true) at c.loop-index.invariant in
    rw (c.in_ok-push.ensures.items, map-append names_lent c.loop-index.found.items (x ∷ []))
    (goes_on (λ position. spelled_range_in) Ranges (map names_lent c.loop-index.found.items) i (view v.result) (map view (drop (i + 1) c.args.values.now))
    (names_lent x) _ c.in_ok-spelled_range_in.ensures inv)

pub returns : goal.returns
unfolding spelled_ranges_in
returns c = ends (λ position. spelled_range_in) Ranges (map names_lent c.loop-index.found.items) c.loop-index.index _
    (rw (drop_all c.loop-index.index c.args.values.now c.loop-index-test.false) at c.loop-index.invariant)
