use Rattle.std.proofs.Common.{◌<◌, length, arith}
use Rattle.std.proofs.lemmas.Bool.Decides.{nat_tests}
use Rattle.icu_decimal.proofs.EventSteps.{fraction_some}
use Rattle.icu_decimal.proofs.formatted_decimal.FormattedUnsignedDecimal.write_fraction.Goals as goal

pub returns-in_err-part : goal.returns-in_err-part
returns-in_err-part g c =
    let some : 0 < length c.args.fraction.now = grind (arith, nat_tests, c.if-is_empty.ensures) in
    rw (fraction_some c.args.self.now.format c.args.fraction.now some, ← c.self.view_is, ← c.symbols.ensures, ← c.decimal_separator.ensures)
    (g.met.K.EventWriter.stop _ _ _ _ _ _ c.from_residual.ensures.0 c.in_err-part.ensures)

pub returns-in_err-open : goal.returns-in_err-open
returns-in_err-open g c =
    let some : 0 < length c.args.fraction.now = grind (arith, nat_tests, c.if-is_empty.ensures) in
    rw (fraction_some c.args.self.now.format c.args.fraction.now some, ← c.self.view_is, ← c.symbols.ensures, ← c.decimal_separator.ensures)
    (g.met.K.EventWriter.then _ _ _ _ _ _ c.in_ok-part.ensures
    (g.met.K.EventWriter.stop _ _ _ _ _ _ c.from_residual-in_err-open.ensures.0 c.in_err-open.ensures))

pub returns-in_err-write_digits : goal.returns-in_err-write_digits
returns-in_err-write_digits g c =
    let some : 0 < length c.args.fraction.now = grind (arith, nat_tests, c.if-is_empty.ensures) in
    rw (fraction_some c.args.self.now.format c.args.fraction.now some, ← c.self.view_is, ← c.symbols.ensures, ← c.decimal_separator.ensures)
    (g.met.K.EventWriter.then _ _ _ _ _ _ c.in_ok-part.ensures
    (g.met.K.EventWriter.then _ _ _ _ _ _ c.in_ok-open.ensures
    (g.met.K.EventWriter.stop _ _ _ _ _ _ c.from_residual-in_err-write_digits.ensures.0 c.in_err-write_digits.ensures)))

pub returns : goal.returns
returns g c =
    let some : 0 < length c.args.fraction.now = grind (arith, nat_tests, c.if-is_empty.ensures) in
    rw (fraction_some c.args.self.now.format c.args.fraction.now some, ← c.self.view_is, ← c.symbols.ensures, ← c.decimal_separator.ensures)
    (g.met.K.EventWriter.then _ _ _ _ _ _ c.in_ok-part.ensures
    (g.met.K.EventWriter.then _ _ _ _ _ _ c.in_ok-open.ensures (g.met.K.EventWriter.then _ _ _ _ _ _ c.in_ok-write_digits.ensures c.close.ensures)))
