use Rattle.std.proofs.lemmas.Result.{err_from_is_err_and}
use Rattle.icu_dimension_tables.proofs.ByValue.{all_by_value, value_refused}
use Rattle.icu_dimension_tables.proofs.all_tables.AllTables.from_json.Goals as goal

pub returns-in_err-value : goal.returns-in_err-value
returns-in_err-value c =
    let p = err_from_is_err_and c.from_residual.result c.from_residual.ensures.1 in
    rw (p.1, p.2) (value_refused c.in_err-value.field-0.0 c.args.text.now c.in_err-value.ensures)

pub returns : goal.returns
returns c = rw (all_by_value c.args.text.now, c.in_ok-value.ensures) c.all_tables_at.ensures
