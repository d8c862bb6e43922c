use Rattle.std.proofs.Common.{ap}
use Rattle.icu_decimal.specs.Formatted.{FormattedNumber}
use Rattle.icu_decimal.proofs.formatted_decimal.FormattedUnsignedDecimalWriteable.write_events.Goals as goal

pub returns-in_err-write_integer : goal.returns-in_err-write_integer
returns-in_err-write_integer g c =
    let number = ap (λ (f : FormattedNumber). f.number) c.self.view_is in
    let here = rw (c.integer.ensures.digits, c.get-value.ensures, number) at c.in_err-write_integer.ensures in
    g.met.K.EventWriter.stop _ _ _ _ _ _ c.from_residual.ensures.0 here

pub returns : goal.returns
returns g c =
    let number = ap (λ (f : FormattedNumber). f.number) c.self.view_is in
    let first = rw (c.integer.ensures.digits, c.get-value.ensures, number) at c.in_ok-write_integer.ensures in
    let second = rw (c.fraction.ensures.digits, c.get-value.ensures, number) at c.write_fraction.ensures in
    g.met.K.EventWriter.then _ _ _ _ _ _ first second
