use Rattle.icu_dimension_tables.proofs.PatternFaults.{pattern_failed, pattern_read}
use Rattle.icu_dimension_tables.proofs.number_patterns.number_pattern_of.Goals as goal

pub returns-in-Ok : goal.returns-in-Ok
returns-in-Ok c = pattern_read c.args.position c.args.text.now c.in-Ok.pattern c.in-Ok.ensures.read

pub returns-in-Err : goal.returns-in-Err
returns-in-Err c = rw c.pattern_refusal.ensures (pattern_failed c.args.position c.args.text.now c.in-Err.fault c.in-Err.ensures.refused)
