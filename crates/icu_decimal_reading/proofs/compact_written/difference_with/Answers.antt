use Rattle.std.proofs.Common.{◌≡◌, rules, sym, ap, ◌∙◌, chars, encode_utf8_all, true}
use Rattle.std.specs.Prelude.{◌==◌, if◌then◌else◌}
use Rattle.std.specs.String.{string_bytes}
use Rattle.std.proofs.lemmas.Bool.{eq-eqb}
use Rattle.std.proofs.lemmas.Str.{encodes-chars, IsUtf8-string_bytes}
use Rattle.icu_decimal.specs.CompactFormat.{exponent_needed}
use Rattle.icu_decimal_reading.specs.Reading.{alike}
use Rattle.icu_decimal_reading.specs.CompactReading.{compact_written}
use Rattle.icu_decimal_reading.proofs.compact_written.difference_with.Goals as goal

pub returns-clause-differs : goal.returns-clause-differs
returns-clause-differs c =
    let f = c.args.formatter.now in
    let u = c.args.significand.now in
    let n = c.args.exponent in
    let cs = chars c.args.text.now in
    let given = rw c.in-Some.is at c.in_ok-written.ensures.text in
    let accepted : (n == exponent_needed f u.absolute n) ≡ true = eq-eqb n (exponent_needed f u.absolute n) given.0 in (
      c.bytes_alike.ensures ∙ ap (λ t. alike cs (chars t)) c.as_str-2.ensures.value ∙ ap (alike cs) given.1
          ∙ ap (λ b. if b then alike cs (compact_written f u.sign u.absolute n) else 0) (sym accepted),
      λ t. let same : c.args.text.now ≡ c.as_str.result.now =
          sym (encodes-chars c.args.text.now c.utf8.text) ∙ ap encode_utf8_all (t.text ∙ sym given.1)
          ∙ encodes-chars (string_bytes c.in-Some.written) (IsUtf8-string_bytes c.in-Some.written) ∙ sym c.as_str.ensures.value in
          search rules,
    )
