use Rattle.std.proofs.Common.{rules}
use Rattle.icu_decimal_interface.proofs.NestedSteps.{wrote_pair}
use Rattle.icu_unit_ranges.proofs.showing.write_range_into.Goals as goal

-- what the end wrote with the start is what both are to write
pub returns-in-Ok-clause-written : goal.returns-in-Ok-clause-written
returns-in-Ok-clause-written g c =
    let (n, first, used) = c.in-Ok.ensures.used in
    let (same, written, over) = used in
    let both = wrote_pair g.K.EventWriter.wrote c.args.out.now _ c.in-Ok.answer (g.F.AbstractFormatter.shows c.args.formatter.now c.args.start.now)
    (g.F.AbstractFormatter.shows c.args.formatter.now c.args.end.now) (g.T.RangeFrame.framed c.args.frame.now) n first written in
    search rules
