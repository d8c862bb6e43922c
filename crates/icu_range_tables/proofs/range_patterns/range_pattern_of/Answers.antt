use Rattle.std.proofs.Common.{refl}
use Rattle.icu_range_tables.proofs.Patterns.{pattern_read, pattern_rejected}
use Rattle.icu_range_tables.proofs.range_patterns.range_pattern_of.Goals as goal

pub returns-in-Ok : goal.returns-in-Ok
returns-in-Ok c =
    let read = c.in-Ok.ensures.read in
    pattern_read c.args.position c.args.text.now read.0 c.in-Ok.pattern read.1 read.2

pub returns-in-Err-BadRangePattern : goal.returns-in-Err-BadRangePattern
returns-in-Err-BadRangePattern c =
    let b = c.in-Err-BadRangePattern in
    rw c.refusal.ensures (pattern_rejected c.args.position c.args.text.now (c.parse.ensures.rejected (rw (b.is, b.field-0-is) refl)))
