use Rattle.std.proofs.Common.{◌≡◌, rules, sym}
use Rattle.std.proofs.lemmas.Str.{chars_from_encodes, IsUtf8-string_bytes}
use Rattle.std.specs.String.{string_bytes}
use Rattle.writeable.specs.Events.{text_of}
use Rattle.icu_decimal.specs.Decimal.{decimal_events}
use Rattle.icu_decimal_reading.specs.Reading.{written}
use Rattle.icu_decimal_reading.proofs.written.text_of.Goals as goal

pub returns-in-Ok-clause-text : goal.returns-in-Ok-clause-text
returns-in-Ok-clause-text c =
    let e : string_bytes c.in-Ok.text ≡ text_of (decimal_events c.args.formatter.now c.args.sign c.args.number.now) = search rules in
    sym (chars_from_encodes (written c.args.formatter.now c.args.sign c.args.number.now) (string_bytes c.in-Ok.text)
    (IsUtf8-string_bytes c.in-Ok.text) (sym e))
