-- A call that succeeded, and the calls after it: `then`. The call that failed: `stop`.
use Rattle.test_callers.proofs.annotated.written.GroupedWriteable.write_events.Goals as goal

pub returns-in_err-open : goal.returns-in_err-open
returns-in_err-open g c = g.met.K.EventWriter.stop _ _ _ _ _ _ c.from_residual.ensures.0 c.in_err-open.ensures

pub returns-in_err-text : goal.returns-in_err-text
returns-in_err-text g c =
    g.met.K.EventWriter.then _ _ _ _ _ _ c.in_ok-open.ensures (g.met.K.EventWriter.stop _ _ _ _ _ _ c.from_residual-in_err-text.ensures.0 c.in_err-text.ensures)

pub returns : goal.returns
returns g c =
    g.met.K.EventWriter.then _ _ _ _ _ _ c.in_ok-open.ensures (g.met.K.EventWriter.then _ _ _ _ _ _ c.in_ok-text.ensures c.close.ensures)
