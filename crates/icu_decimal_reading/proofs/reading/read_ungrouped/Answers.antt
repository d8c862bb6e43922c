use Rattle.std.proofs.Common.{sym, subst, chars, IfErr}
use Rattle.icu_decimal.specs.Decimal.{DecimalFormat}
use Rattle.icu_decimal_readable.specs.Readable.{IsReadable}
use Rattle.icu_decimal_reading.specs.Reading.{IfNoNumber, IsNotWritten}
use Rattle.icu_decimal_reading.proofs.reading.read_ungrouped.Goals as goal

pub returns-clause-refused : goal.returns-clause-refused
returns-clause-refused c =
    let format = c.in_ok-plain.ensures.format in
    λ h. subst (λ (f : DecimalFormat). IfErr c.read_written.result (IfNoNumber (IsNotWritten f (chars c.args.text.now)))) format
    (c.read_written.ensures.refused (subst (λ (f : DecimalFormat). IsReadable f.symbols.strings f.digits) (sym format) h))
