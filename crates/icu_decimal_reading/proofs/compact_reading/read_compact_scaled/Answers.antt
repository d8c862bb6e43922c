use Rattle.std.proofs.Common.{◌≡◌, ℕ, rules, sym, subst, chars, Err, IfErr}
use Rattle.fixed_decimal.specs.Unsigned.{Unsigned}
use Rattle.icu_decimal_reading.specs.Reading.{number_of, IfNoNumber}
use Rattle.icu_decimal_reading.specs.CompactReading.{IsOfNoSign}
use Rattle.icu_decimal_reading.proofs.CompactRejected.{refused_so, IsNoneWith}
use Rattle.icu_decimal_reading.proofs.compact_reading.read_compact_scaled.Goals as goal

pub returns-in_err-exponent-clause-refused : goal.returns-in_err-exponent-clause-refused
returns-in_err-exponent-clause-refused c =
    let f = c.args.formatter.now in
    let cs = chars c.args.text.now in
    let ds = c.args.digits.now in
    let made : c.in-Some.absolute ≡ number_of ds c.args.scale = search rules in
    let error : c.from_residual-in_err-exponent.result ≡ Err c.in_err-exponent.field-0.0 = search rules in
    subst (λ r. IfErr r (IfNoNumber (IsNoneWith f cs ds c.args.scale))) (sym error)
    (refused_so c.in_err-exponent.field-0.0 ((n : ℕ) → IsOfNoSign f cs c.in-Some.absolute n) (IsNoneWith f cs ds c.args.scale)
    (λ none n is. subst (λ (u : Unsigned). IsOfNoSign f cs u n) made (none n)) c.in_err-exponent.ensures.refused)
