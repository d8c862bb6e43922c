use Rattle.number_ranges.specs.ByCategory.{range_events}
use Rattle.talmuiga_c.specs.Ranges.{style_of}
use Rattle.talmuiga_c.proofs.Patterned.{unwritten-range}
use Rattle.talmuiga_c.proofs.ranges.format_range_by.Goals as goal

pub returns-in-Err : goal.returns-in-Err
returns-in-Err c =
    rw c.range_status.ensures (unwritten-range
    (range_events c.args.form.now (style_of c.args.ranges.now) c.args.start.now c.args.end.now) c.in-Err.error c.args.output.now
    c.put_range.new.output c.in-Err.ensures.refused c.in-Err.ensures.unchanged)
