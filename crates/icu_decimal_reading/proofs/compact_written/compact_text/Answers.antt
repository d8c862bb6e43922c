use Rattle.std.proofs.Common.{◌≡◌, rules, sym}
use Rattle.std.proofs.lemmas.Str.{chars_from_encodes, IsUtf8-string_bytes}
use Rattle.std.specs.String.{string_bytes}
use Rattle.writeable.specs.Events.{text_of}
use Rattle.icu_decimal.specs.CompactFormat.{exponent_needed, events_with_exponent}
use Rattle.icu_decimal_reading.specs.CompactReading.{compact_written}
use Rattle.icu_decimal_reading.proofs.compact_written.compact_text.Goals as goal

pub returns-in-Ok-write_to_string-clause-text : goal.returns-in-Ok-write_to_string-clause-text
returns-in-Ok-write_to_string-clause-text c =
    let f = c.args.formatter.now in
    let u = c.args.significand.now in
    let is : c.args.exponent ≡ exponent_needed f u.absolute c.args.exponent = search rules in
    let e : string_bytes c.in-Ok-write_to_string.text ≡ text_of (events_with_exponent f u.sign u.absolute c.args.exponent) = search rules in (
      is,
      sym (chars_from_encodes (compact_written f u.sign u.absolute c.args.exponent) (string_bytes c.in-Ok-write_to_string.text)
          (IsUtf8-string_bytes c.in-Ok-write_to_string.text) (sym e)),
    )
