use Rattle.std.proofs.Common.{◌≡◌, ℕ, List, Bool, true, false, refl, sym, ap, ◌∙◌}
use Rattle.std.specs.Str.{IsUtf8, chars, is_utf8}
use Rattle.std.proofs.lemmas.Str.{IsUtf8-from_is_utf8, is_utf8-from_IsUtf8}
use Rattle.number_forms.specs.Reported.{shortened}
use Rattle.number_forms.proofs.VisibleTexts.{reported_bytes, reported_utf8}
use Rattle.number_forms.proofs.reported.push_reported.Goals as goal

pub returns-in-Ok : goal.returns-in-Ok
returns-in-Ok c =
    let utf8 = is_utf8-from_IsUtf8 c.args.text.now c.in-Ok.ensures.cases.1 in
    let blank = sym c.is_blank.ensures ∙ c.if-is_blank.false in
    let same = ap (λ k. shortened (chars k)) c.in-Ok.ensures.cases.0 ∙ sym (reported_utf8 c.args.text.now blank utf8) in
    rw same at c.push_text.ensures

not_utf8 : (text : List ℕ) (b : Bool) → is_utf8 text ≡ b → (IsUtf8 text → ⊥) → is_utf8 text ≡ false
not_utf8 text true e h = absurd (h (IsUtf8-from_is_utf8 text e))
not_utf8 text false e h = e

pub returns-in-Err : goal.returns-in-Err
returns-in-Err c =
    let utf8 = not_utf8 c.args.text.now (is_utf8 c.args.text.now) refl c.in-Err.ensures.cases.0 in
    let blank = sym c.is_blank.ensures ∙ c.if-is_blank.false in
    rw (sym (reported_bytes c.args.text.now blank utf8)) at c.push_unreadable.ensures
