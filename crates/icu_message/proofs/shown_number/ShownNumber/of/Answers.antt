use Rattle.std.proofs.Common.{◌≡◌, ◌++◌, List, ℕ, sym, ap, ◌∙◌}
use Rattle.std.specs.Borrow.{Bor}
use Rattle.writeable.specs.Events.{text_events, text_of}
use Rattle.icu_decimal.specs.Signed.{Signed, affixed_events, affixes_for}
use Rattle.icu_decimal_interface.specs.Shown.{operands_shown}
use Rattle.icu_message.proofs.ShownTexts.{signed_text, of_made}
use Rattle.icu_message.proofs.shown_number.ShownNumber.of.Goals as goal

-- the number that was written is the one whose operands were asked, and its affixes stand around its text
pub returns-in-Ok-clause-shown : goal.returns-in-Ok-clause-shown
returns-in-Ok-clause-shown g c =
    let a = c.in_ok-operands.ensures.written in
    let b = c.in_ok-operands.ensures.shown in
    let one : b.0 ≡ a.0 = g.met.F.AbstractFormatter.one_shown c.args.formatter.now c.args.value.now.absolute b.0 a.0 b.1 a.1 in
    let digits : c.as_str.result.now ≡ text_of a.0.events =
    c.as_str.ensures.value ∙ a.2 ∙ ap (λ l. l ++ text_of a.0.events) c.new-digits.ensures.bytes in
    let symbols = g.F.AbstractFormatter.symbols c.args.formatter.now in
    of_made c.of_bytes.result _ _ c.of_bytes.ensures.made (
      a.0,
      a.1,
      sym b.2 ∙ ap operands_shown one,
      c.in-Ok.ensures
          ∙ ap (λ l. l ++ text_of (affixed_events c.format_sign-signed.result.affixes (text_events c.format_sign-signed.result.value.now)))
          c.new-text.ensures.items
          ∙ ap (λ (x : Signed (Bor (List ℕ))). text_of (affixed_events x.affixes (text_events x.value.now))) c.format_sign-signed.ensures
          ∙ signed_text (affixes_for symbols c.args.value.now.sign) a.0.events c.as_str.result.now c.as_str.utf8 digits,
    )
