use Rattle.icu_decimal.proofs.formatted_decimal.FormattedUnsignedDecimal.write_integer.Goals as goal

pub returns-in_err-open : goal.returns-in_err-open
returns-in_err-open g c = g.met.K.EventWriter.stop _ _ _ _ _ _ c.from_residual.ensures.0 c.in_err-open.ensures

pub returns-in_err-write_grouped : goal.returns-in_err-write_grouped
returns-in_err-write_grouped g c =
    g.met.K.EventWriter.then _ _ _ _ _ _ c.in_ok-open.ensures
    (g.met.K.EventWriter.stop _ _ _ _ _ _ c.from_residual-in_err-write_grouped.ensures.0 c.in_err-write_grouped.ensures)

pub returns : goal.returns
returns g c =
    g.met.K.EventWriter.then _ _ _ _ _ _ c.in_ok-open.ensures (g.met.K.EventWriter.then _ _ _ _ _ _ c.in_ok-write_grouped.ensures c.close.ensures)
