use Rattle.std.proofs.Common.{◌+◌, drop, map}
use Rattle.std.proofs.lemmas.List.{drop_all}
use Rattle.std.proofs.lemmas.Result.{err_from_is_err_and}
use Rattle.serde_json.specs.View.{view}
use Rattle.icu_dimension_tables.specs.CurrencySymbols.{currency_row_at}
use Rattle.icu_dimension_tables.proofs.currency_symbols.currency_rows_at.Goals as goal
use Rattle.icu_table_entries.proofs.Lists.{goes_on, fails, ends, values_from}
use Rattle.icu_table_entries.specs.declared.error.Key.TheVariants.{Symbols}

pub returns-in_err-currency_row_at : goal.returns-in_err-currency_row_at
returns-in_err-currency_row_at c =
    let p = err_from_is_err_and c.from_residual.result c.from_residual.ensures.1 in
    let v = c.index-values-index in
    let i = c.loop-index.index in
    let inv = rw (values_from c.args.values.now i v.result v.is c.loop-index-test.true) at c.loop-index.invariant in
    rw (p.1, p.2) (fails (λ _. currency_row_at c.args.position) Symbols c.in_err-currency_row_at.field-0.0 c.loop-index.found.items i (view v.result)
    (map view (drop (i + 1) c.args.values.now)) _ c.in_err-currency_row_at.ensures inv)

pub loop-index-preserved : goal.loop-index-preserved
loop-index-preserved c =
    let v = c.index-values-index in
    let i = c.loop-index.index in
    let inv = rw (values_from c.args.values.now i v.result v.is c.loop-index-test.true) at c.loop-index.invariant in
    rw c.in_ok-push.ensures.items (goes_on (λ _. currency_row_at c.args.position) Symbols c.loop-index.found.items i (view v.result)
    (map view (drop (i + 1) c.args.values.now)) c.in_ok-currency_row_at.field-0 _ c.in_ok-currency_row_at.ensures inv)

pub returns : goal.returns
returns c = ends (λ _. currency_row_at c.args.position) Symbols c.loop-index.found.items c.loop-index.index _
    (rw (drop_all c.loop-index.index c.args.values.now c.loop-index-test.false) at c.loop-index.invariant)
