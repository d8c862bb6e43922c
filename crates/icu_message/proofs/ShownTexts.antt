-- The text of a number with its sign.
use Rattle.std.proofs.Common.{◌≡◌, ℕ, List, ◌++◌, sym, ap, subst, ◌∙◌}
use Rattle.std.specs.Prelude.{Option, Some, None, Result, Ok, Err, IfOk}
use Rattle.std.specs.Str.{IsUtf8}
use Rattle.writeable.specs.Events.{Event, text_events, text_of}
use Rattle.writeable.specs.Writes.{text_of-append}
use Rattle.writeable.proofs.EventLemmas.{text_of-text_events}
use Rattle.icu_decimal.specs.Signed.{Affixes, affixed_events, prefix_events, suffix_events}
use Rattle.icu_decimal.specs.declared.error.FormatError.{FormatError}
use Rattle.icu_message.specs.Numbers.{Number}

-- affixes around the text of events
pub signed_text : (a : Option Affixes) (es : List Event) (bytes : List ℕ) → IsUtf8 bytes → bytes ≡ text_of es
    → text_of (affixed_events a (text_events bytes)) ≡ text_of (affixed_events a es)
signed_text None es bytes h e = text_of-text_events bytes h ∙ e
signed_text (Some a) es bytes h e =
    let p : List Event = prefix_events (Some a) in
    let s : List Event = suffix_events (Some a) in
    text_of-append p (text_events bytes ++ s)
    ∙ ap (λ l. text_of p ++ l)
    (text_of-append (text_events bytes) s ∙ ap (λ l. l ++ text_of s) (text_of-text_events bytes h ∙ e) ∙ sym (text_of-append es s))
    ∙ sym (text_of-append p (es ++ s))

-- what holds of the number that is made
pub of_made : (r : Result Number FormatError) (P : Number → Type 0) (m : Number) → IfOk r (λ n. n ≡ m) → P m → IfOk r P
of_made (Ok n) P m e p = subst P (sym e) p
of_made (Err x) P m e p = tt
