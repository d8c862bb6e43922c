use Rattle.std.proofs.Common.{◌≡◌, sym, ap, ◌∙◌, subst, chars, Err, IfErr}
use Rattle.icu_decimal_reading.specs.declared.error.NotRead.TheVariants.{NoNumber}
use Rattle.icu_decimal_reading.specs.Reading.{last_run, IfNoNumber, IsNotWritten}
use Rattle.icu_decimal_reading.proofs.Rejected.{at_no_number, digits_rejected, IsNoneOf}
use Rattle.icu_decimal_reading.proofs.reading.read_digits.Goals as goal

pub returns-in-Err-NoNumber-clause-refused : goal.returns-in-Err-NoNumber-clause-refused
returns-in-Err-NoNumber-clause-refused c =
    let failed : c.read_scaled.result ≡ Err (NoNumber c.in-Err-NoNumber.byte) = cc in
    let f = c.args.formatter.now in
    λ h. subst (λ r. IfErr r (IfNoNumber (IsNotWritten f (chars c.args.text.now)))) (sym c.no_nearer.ensures)
    (digits_rejected f (chars c.args.text.now) c.args.digits.now c.last_run-scale.result c.in-Err-NoNumber.byte
    c.read_scaled-in-Err-NoNumber.result h c.requires.digits
    (c.last_run-scale.ensures ∙ ap (λ ds. last_run ds (chars c.args.text.now)) c.digits.ensures)
    (at_no_number c.read_scaled.result c.in-Err-NoNumber.byte (IsNoneOf f (chars c.args.text.now) c.args.digits.now 0) failed
    c.read_scaled.ensures.refused)
    c.read_scaled-in-Err-NoNumber.ensures.refused)
