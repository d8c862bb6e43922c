use Rattle.std.proofs.Common.{rules}
use Rattle.icu_decimal_interface.proofs.NestedSteps.{wrote_pair}
use Rattle.icu_decimal_interface.proofs.pairs.write_pair_into.Goals as goal

pub returns-in-Ok-clause-written : goal.returns-in-Ok-clause-written
returns-in-Ok-clause-written g c =
    let (n, first, used) = c.in-Ok.ensures.used in
    let (same, written, over, memory) = used in
    let both = wrote_pair g.K.EventWriter.wrote c.args.out.now _ c.in-Ok.answer (g.F.AbstractFormatter.shows c.args.formatter.now c.args.first.now)
    (g.G.AbstractFormatter.shows c.args.inner.now c.args.second.now) (g.T.PairFrame.framed c.args.frame.now) n first written in
    search rules
