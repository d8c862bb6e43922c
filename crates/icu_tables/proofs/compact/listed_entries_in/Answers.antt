use Rattle.std.proofs.Common.{map, drop, ◌+◌, None, sym}
use Rattle.std.proofs.lemmas.Result.{err_from_is_err_and}
use Rattle.std.proofs.lemmas.List.{drop_all}
use Rattle.serde_json.specs.View.{view}
use Rattle.icu_tables.specs.Compact.{IsAbove}
use Rattle.icu_table_entries.proofs.Lists.{values_from}
use Rattle.icu_tables.proofs.Maps.{last_type, rise_on, last_on}
use Rattle.icu_tables.proofs.Risings.{entries_go_on, entries_fail, entries_end}
use Rattle.icu_tables.proofs.compact.listed_entries_in.Goals as goal

pub returns-in_err-entry-clause-entries : goal.returns-in_err-entry-clause-entries
returns-in_err-entry-clause-entries c =
    let p = err_from_is_err_and c.from_residual.result c.from_residual.ensures.1 in
    let v = c.index-values-index in
    let i = c.loop-index.index in
    let inv = rw (values_from c.args.values.now i v.result v.is c.loop-index-test.true) at c.loop-index.invariant.0 in
    rw (p.1, p.2) (entries_fail c.in_err-entry.field-0.0 c.loop-index.found.items c.loop-index.before (view v.result)
    (map view (drop (i + 1) c.args.values.now)) _ c.in_err-entry.ensures.read inv)

pub returns-in_err-entry-clause-rise : goal.returns-in_err-entry-clause-rise
returns-in_err-entry-clause-rise c = let p = err_from_is_err_and c.from_residual.result c.from_residual.ensures.1 in rw p.1 tt

pub loop-index-preserved : goal.loop-index-preserved
loop-index-preserved c =
    let v = c.index-values-index in
    let i = c.loop-index.index in
    let x = c.in_ok-entry.entry in
    let found = c.loop-index.found.items in
    let inv = rw (values_from c.args.values.now i v.result v.is c.loop-index-test.true) at c.loop-index.invariant.0 in
    let read = entries_go_on found c.loop-index.before (view v.result) (map view (drop (i + 1) c.args.values.now)) x _ c.in_ok-entry.ensures.read inv in
    let above : IsAbove (last_type None found) x.log10_type = rw (← c.loop-index.invariant.2) c.in_ok-entry.ensures.above in
    rw c.in_ok-push.ensures.items (read, rise_on None found x c.loop-index.invariant.1 above, sym (last_on None found x))

pub returns : goal.returns
returns c = record {
  entries = entries_end c.loop-index.found.items c.loop-index.before _
      (rw (drop_all c.loop-index.index c.args.values.now c.loop-index-test.false) at c.loop-index.invariant.0);
  rise = c.loop-index.invariant.1;
}
