use Rattle.writeable.proofs.event_writer.EventWriter.part.Goals as goal

pub returns-in_err-open : goal.returns-in_err-open
returns-in_err-open g c = g.met.Self.EventWriter.stop _ _ _ _ _ _ c.from_residual.ensures.0 c.in_err-open.ensures

pub returns-in_err-text : goal.returns-in_err-text
returns-in_err-text g c =
    g.met.Self.EventWriter.then _ _ _ _ _ _ c.in_ok-open.ensures
    (g.met.Self.EventWriter.stop _ _ _ _ _ _ c.from_residual-in_err-text.ensures.0 c.in_err-text.ensures)

pub returns : goal.returns
returns g c =
    g.met.Self.EventWriter.then _ _ _ _ _ _ c.in_ok-open.ensures (g.met.Self.EventWriter.then _ _ _ _ _ _ c.in_ok-text.ensures c.close.ensures)
