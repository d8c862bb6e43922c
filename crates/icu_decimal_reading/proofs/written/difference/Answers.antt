use Rattle.std.proofs.Common.{◌≡◌, rules, sym, ap, ◌∙◌, chars, encode_utf8_all}
use Rattle.std.proofs.lemmas.Str.{encodes-chars, IsUtf8-string_bytes}
use Rattle.std.specs.String.{string_bytes}
use Rattle.icu_decimal_reading.specs.Reading.{alike}
use Rattle.icu_decimal_reading.proofs.written.difference.Goals as goal

pub returns-clause-differs : goal.returns-clause-differs
returns-clause-differs c = (
  c.bytes_alike.ensures ∙ ap (λ t. alike (chars c.args.text.now) (chars t)) c.as_str-2.ensures.value
      ∙ ap (λ cs. alike (chars c.args.text.now) cs) c.in_ok-written.ensures.text,
  λ e. let same : c.args.text.now ≡ c.as_str.result.now =
      sym (encodes-chars c.args.text.now c.utf8.text) ∙ ap encode_utf8_all (e ∙ sym c.in_ok-written.ensures.text)
      ∙ encodes-chars (string_bytes c.in_ok-written.written) (IsUtf8-string_bytes c.in_ok-written.written) ∙ sym c.as_str.ensures.value in
      search rules,
)
