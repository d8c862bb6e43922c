use Rattle.std.proofs.Common.{◌∙◌, ap, List, ℕ}
use Rattle.std.proofs.lemmas.Str.{IsUtf8-string_bytes}
use Rattle.std.specs.Borrow.{Bor}
use Rattle.std.specs.String.{string_bytes}
use Rattle.writeable.specs.Events.{text_events, text_of}
use Rattle.icu_dimension_data.specs.Surrounding.{SurroundedValue, surrounded}
use Rattle.icu_ranges_readable.proofs.AmountFronts.{around_text}
use Rattle.icu_ranges_readable.proofs.amounts.text_around.Goals as goal

pub returns-in-Ok : goal.returns-in-Ok
returns-in-Ok c =
    around_text c.args.patterns.now c.args.sign c.for_sign.result c.args.digit (string_bytes c.in-Ok.text) c.encode_utf8-shown.result.now
    c.for_sign.ensures c.encode_utf8-shown.ensures.value c.ranges.digit.0 (IsUtf8-string_bytes c.in-Ok.text)
    (c.in-Ok.ensures ∙ ap (λ (s : SurroundedValue (Bor (List ℕ))). text_of (surrounded s.pattern (text_events s.value.now))) c.interpolate.ensures)
