use Rattle.std.proofs.Common.{rules, [], ◌∷◌, Some, ◌∙◌}
use Rattle.icu_pattern.specs.Refs.{text_of_ref}
use Rattle.icu_decimal_data.specs.PackedTable.{ArePatterns}
use Rattle.icu_decimal_data.proofs.TableWriting.{on_ok, pattern_good}
use Rattle.icu_decimal_data.proofs.table_writing.push_slot.Goals as goal

pub returns-clause-pattern : goal.returns-clause-pattern
returns-clause-pattern g c =
    let good : ArePatterns g.P.PatternBackend.accepted (Some c.in-Some.pattern.now ∷ []) =
    pattern_good g.P.PatternBackend.accepted c.in-Some.pattern.now (text_of_ref c.as_ref-pattern.result) c.as_bytes-literal.result.now
    c.as_bytes-literal.ensures.utf8 (c.as_bytes-literal.ensures.value ∙ c.literal.ensures) c.as_ref-pattern.ensures.lent
    c.as_ref-pattern.ensures.accepted in
    rw c.in-Some.is (on_ok c.extend_from_slice-2.result good)

-- Goals that a search finds; it is not tried longer where one is false.
pub returns-in_default-clause-records : goal.returns-in_default-clause-records
returns-in_default-clause-records g c = search rules

pub returns-in_default-clause-pool : goal.returns-in_default-clause-pool
returns-in_default-clause-pool g c = search rules

pub returns-in_default-clause-pattern : goal.returns-in_default-clause-pattern
returns-in_default-clause-pattern g c = search rules

pub returns-in_err-push-clause-records : goal.returns-in_err-push-clause-records
returns-in_err-push-clause-records g c = search rules

pub returns-in_err-push-clause-pool : goal.returns-in_err-push-clause-pool
returns-in_err-push-clause-pool g c = search rules

pub returns-in_err-push-clause-pattern : goal.returns-in_err-push-clause-pattern
returns-in_err-push-clause-pattern g c = search rules

pub returns-in_err-push_number-clause-records : goal.returns-in_err-push_number-clause-records
returns-in_err-push_number-clause-records g c = search rules

pub returns-in_err-push_number-clause-pool : goal.returns-in_err-push_number-clause-pool
returns-in_err-push_number-clause-pool g c = search rules

pub returns-in_err-push_number-clause-pattern : goal.returns-in_err-push_number-clause-pattern
returns-in_err-push_number-clause-pattern g c = search rules

pub returns-in_err-push_number-2-clause-records : goal.returns-in_err-push_number-2-clause-records
returns-in_err-push_number-2-clause-records g c = search rules

pub returns-in_err-push_number-2-clause-pool : goal.returns-in_err-push_number-2-clause-pool
returns-in_err-push_number-2-clause-pool g c = search rules

pub returns-in_err-push_number-2-clause-pattern : goal.returns-in_err-push_number-2-clause-pattern
returns-in_err-push_number-2-clause-pattern g c = search rules

pub returns-in_err-push_number-3-clause-records : goal.returns-in_err-push_number-3-clause-records
returns-in_err-push_number-3-clause-records g c = search rules

pub returns-in_err-push_number-3-clause-pool : goal.returns-in_err-push_number-3-clause-pool
returns-in_err-push_number-3-clause-pool g c = search rules

pub returns-in_err-push_number-3-clause-pattern : goal.returns-in_err-push_number-3-clause-pattern
returns-in_err-push_number-3-clause-pattern g c = search rules

pub returns-clause-pool : goal.returns-clause-pool
returns-clause-pool g c = search rules
