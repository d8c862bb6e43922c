use Rattle.std.proofs.Common.{ap}
use Rattle.icu_decimal.specs.Signed.{Signed}
use Rattle.icu_decimal.proofs.EventSteps.{affixed-between}
use Rattle.icu_decimal.proofs.formatted_sign.FormattedSignWriteable.write_events.Goals as goal

pub returns-in_err-write_prefix : goal.returns-in_err-write_prefix
returns-in_err-write_prefix g c =
    rw (affixed-between c.args.self.now.affixes (g.T.Writeable.events c.args.self.now.value))
    (g.met.K.EventWriter.stop _ _ _ _ _ _ c.from_residual.ensures.0 c.in_err-write_prefix.ensures)

pub returns-in_err-write_events : goal.returns-in_err-write_events
returns-in_err-write_events g c =
    let value = ap (λ (f : Signed _). f.value) c.self.view_is in
    rw (affixed-between c.args.self.now.affixes (g.T.Writeable.events c.args.self.now.value), ← value)
    (g.met.K.EventWriter.then _ _ _ _ _ _ c.in_ok-write_prefix.ensures
    (g.met.K.EventWriter.stop _ _ _ _ _ _ c.from_residual-in_err-write_events.ensures.0 c.in_err-write_events.ensures))

pub returns : goal.returns
returns g c =
    let value = ap (λ (f : Signed _). f.value) c.self.view_is in
    rw (affixed-between c.args.self.now.affixes (g.T.Writeable.events c.args.self.now.value), ← value)
    (g.met.K.EventWriter.then _ _ _ _ _ _ c.in_ok-write_prefix.ensures
    (g.met.K.EventWriter.then _ _ _ _ _ _ c.in_ok-write_events.ensures c.write_suffix.ensures))
