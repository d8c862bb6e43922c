use Rattle.std.proofs.Common.{◌≡◌, sym, ap, ap₂, ◌∙◌, subst, chars, max}
use Rattle.icu_decimal.specs.Decimal.{DecimalFormat}
use Rattle.icu_decimal_reading.specs.Reading.{last_run, values}
use Rattle.icu_decimal_reading.specs.CompactReading.{differs_by_digits}
use Rattle.icu_decimal_reading.proofs.CompactRejected.{no_compact_text}
use Rattle.icu_decimal_reading.proofs.compact_reading.read_compact_digits.Goals as goal

pub returns-in-Err-NoNumber-read_compact_scaled-clause-refused : goal.returns-in-Err-NoNumber-read_compact_scaled-clause-refused
returns-in-Err-NoNumber-read_compact_scaled-clause-refused c =
    let f = c.args.formatter.now in
    let cs = chars c.args.text.now in
    let scale : c.last_run-scale.result ≡ last_run f.decimal.digits cs = c.last_run-scale.ensures
    ∙ ap (λ ds. last_run ds cs) (c.digits.ensures ∙ ap (λ (d : DecimalFormat). d.digits) c.decimal_formatter.ensures) in
    let whole = rw c.in-Err-NoNumber.field-0-is at c.in-Err-NoNumber.ensures.refused in
    let part = rw c.in-Err-NoNumber-read_compact_scaled.field-0-is at c.in-Err-NoNumber-read_compact_scaled.ensures.refused in
    λ h. no_compact_text f cs c.args.digits.now c.last_run-scale.result h c.requires.digits scale whole part

pub returns-in-Err-NoNumber-read_compact_scaled-clause-byte : goal.returns-in-Err-NoNumber-read_compact_scaled-clause-byte
returns-in-Err-NoNumber-read_compact_scaled-clause-byte c =
    let f = c.args.formatter.now in
    let cs = chars c.args.text.now in
    let scale : c.last_run-scale.result ≡ last_run f.decimal.digits cs = c.last_run-scale.ensures
    ∙ ap (λ ds. last_run ds cs) (c.digits.ensures ∙ ap (λ (d : DecimalFormat). d.digits) c.decimal_formatter.ensures) in
    let whole = rw c.in-Err-NoNumber.field-0-is at c.in-Err-NoNumber.ensures.byte in
    let part = rw c.in-Err-NoNumber-read_compact_scaled.field-0-is at c.in-Err-NoNumber-read_compact_scaled.ensures.byte in
    c.max.ensures ∙ ap₂ max (whole ∙ ap (λ ds. differs_by_digits f cs ds 0) c.requires.digits)
    (part ∙ ap₂ (differs_by_digits f cs) c.requires.digits scale)
