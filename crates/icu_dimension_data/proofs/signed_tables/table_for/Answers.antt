use Rattle.std.proofs.Common.{map}
use Rattle.icu_dimension_data.specs.LentTexts.{lent_texts}
use Rattle.icu_dimension_data.specs.SignedTables.{entry_for, table_for}
use Rattle.icu_dimension_data.proofs.SignedTables.{table_made, table_refused}
use Rattle.icu_dimension_data.proofs.signed_tables.table_for.Goals as goal

pub returns-in-Ok-new : goal.returns-in-Ok-new
unfolding table_for
returns-in-Ok-new c =
    let made = c.in-Ok.ensures in
    let answer = table_made c.args.rows.now (map (entry_for c.args.digits.now (lent_texts c.args.texts.now) c.args.sign) c.args.rows.now) c.in-Ok-new.table
    (rw made at c.in-Ok-new.ensures.refused) (rw made at c.in-Ok-new.ensures.kept) in
    rw answer c.with_exponents.ensures

pub returns-in-Err : goal.returns-in-Err
unfolding table_for
returns-in-Err c =
    let made = c.in-Ok.ensures in
    table_refused c.args.rows.now (map (entry_for c.args.digits.now (lent_texts c.args.texts.now) c.args.sign) c.args.rows.now) c.in-Err.fault
    c.compact_refusal.result c.compact_refusal.ensures.kind c.compact_refusal.ensures.context (rw made at c.in-Err.ensures.refused)
