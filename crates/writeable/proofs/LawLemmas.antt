-- The laws of events.
use Rattle.std.specs.Prelude.{◌≡◌, ℕ, zero, suc, ◌+◌, ◌<◌, List, [], ◌∷◌, ◌++◌, map, length, Option, Some, None, ◌==◌}
use Rattle.std.specs.Prelude.{if◌then◌else◌, true, false}
use Rattle.std.specs.Option.{option_map}
use Rattle.std.specs.Char.{encode_utf8}
use Rattle.std.specs.Str.{encode_utf8_all}
use Rattle.std.proofs.Common.{ap, ◌∙◌, sym, refl, arith, add-zero, add_assoc, append_assoc}
use Rattle.std.proofs.lemmas.List.{length-append, map-append}
use Rattle.std.proofs.lemmas.Bool.Decides.{nat_tests}
use Rattle.writeable.specs.Events.{Event, without_parts, characters, text_of}
use Rattle.writeable.specs.Events.Event.{Char, Open, Close}
use Rattle.writeable.specs.Spans.{spans, spans_from, span_of, end_of_part, moved, ClosesParts, IsClosed}
use Rattle.writeable.specs.Writes.{text_of-append}
use Rattle.writeable.proofs.EventLemmas.{text_events-append, text_of-text_events}

-- leaving the parts out leaves the characters as they are
pub characters-without_parts : (es : List Event) → characters (without_parts es) ≡ characters es
characters-without_parts [] = refl
characters-without_parts (Char c ∷ es) = ap (λ l. c ∷ l) (characters-without_parts es)
characters-without_parts (Open category value ∷ es) = characters-without_parts es
characters-without_parts (Close ∷ es) = characters-without_parts es

-- leaving the parts out leaves the text as it is
pub text_of-without_parts : (es : List Event) → text_of (without_parts es) ≡ text_of es
text_of-without_parts es = ap encode_utf8_all (characters-without_parts es)

-- where the events begin n bytes further on, a part ends n bytes further on
end_of_part-moved : (n inner at : ℕ) (es : List Event) → end_of_part inner (n + at) es ≡ option_map (λ e. n + e) (end_of_part inner at es)
end_of_part-moved n inner at [] = refl
end_of_part-moved n inner at (Char c ∷ es) =
    ap (λ x. end_of_part inner x es) (add_assoc n at (length (encode_utf8 c))) ∙ end_of_part-moved n inner (at + length (encode_utf8 c)) es
end_of_part-moved n inner at (Open category value ∷ es) = end_of_part-moved n (suc inner) at es
end_of_part-moved n zero at (Close ∷ es) = refl
end_of_part-moved n (suc inner) at (Close ∷ es) = end_of_part-moved n inner at es

same-moved : (n a b : ℕ) → (n + a == n + b) ≡ (a == b)
same-moved n a b = grind (arith, nat_tests)

span_of-moved : (n start : ℕ) (end : Option ℕ) (category value : List ℕ) →
    span_of (n + start) (option_map (λ e. n + e) end) category value ≡ map (moved n) (span_of start end category value)
span_of-moved n start None category value = refl
span_of-moved n start (Some end) category value =
    rw (same-moved n start end) (elim (start == end) as (λ t.
    (if t then [] else record { start = n + start; end = n + end; category = category; value = value } ∷ [])
    ≡ map (moved n) (if t then [] else record { start = start; end = end; category = category; value = value } ∷ []))
    [ true ↦ refl | false ↦ refl ])

spans_from-moved : (n at : ℕ) (es : List Event) → spans_from (n + at) es ≡ map (moved n) (spans_from at es)
spans_from-moved n at [] = refl
spans_from-moved n at (Char c ∷ es) =
    ap (λ x. spans_from x es) (add_assoc n at (length (encode_utf8 c))) ∙ spans_from-moved n (at + length (encode_utf8 c)) es
spans_from-moved n at (Open category value ∷ es) =
    let first : span_of (n + at) (end_of_part 0 (n + at) es) category value ≡ map (moved n) (span_of at (end_of_part 0 at es) category value) =
    ap (λ o. span_of (n + at) o category value) (end_of_part-moved n 0 at es) ∙ span_of-moved n at (end_of_part 0 at es) category value in
    ap (λ l. l ++ spans_from (n + at) es) first
    ∙ ap (λ l. map (moved n) (span_of at (end_of_part 0 at es) category value) ++ l) (spans_from-moved n at es)
    ∙ sym (map-append (moved n) (span_of at (end_of_part 0 at es) category value) (spans_from at es))
spans_from-moved n at (Close ∷ es) = spans_from-moved n at es

-- a part that is closed in the events ends there, whatever follows them
end_of_part-closed : (inner before at : ℕ) (es more : List Event) → inner < before → ClosesParts before es →
    end_of_part inner at (es ++ more) ≡ end_of_part inner at es
end_of_part-closed inner before at [] more l h = absurd (omega (arith, l, h))
end_of_part-closed inner before at (Char c ∷ es) more l h = end_of_part-closed inner before (at + length (encode_utf8 c)) es more l h
end_of_part-closed inner before at (Open category value ∷ es) more l h = end_of_part-closed (suc inner) (suc before) at es more (omega (arith, l)) h
end_of_part-closed inner zero at (Close ∷ es) more l h = absurd h
end_of_part-closed zero (suc before) at (Close ∷ es) more l h = refl
end_of_part-closed (suc inner) (suc before) at (Close ∷ es) more l h = end_of_part-closed inner before at es more (omega (arith, l)) h

spans_from-closed : (before at : ℕ) (es more : List Event) → ClosesParts before es →
    spans_from at (es ++ more) ≡ spans_from at es ++ spans_from (at + length (text_of es)) more
spans_from-closed before at [] more h = ap (λ x. spans_from x more) (sym (add-zero at))
spans_from-closed before at (Char c ∷ es) more h =
    spans_from-closed before (at + length (encode_utf8 c)) es more h
    ∙ ap (λ x. spans_from (at + length (encode_utf8 c)) es ++ spans_from x more) (omega (arith, length-append (encode_utf8 c) (text_of es)))
spans_from-closed before at (Open category value ∷ es) more h =
    ap (λ o. span_of at o category value ++ spans_from at (es ++ more)) (end_of_part-closed 0 (suc before) at es more (omega arith) h)
    ∙ ap (λ l. span_of at (end_of_part 0 at es) category value ++ l) (spans_from-closed (suc before) at es more h)
    ∙ sym (append_assoc (span_of at (end_of_part 0 at es) category value) (spans_from at es) (spans_from (at + length (text_of es)) more))
spans_from-closed zero at (Close ∷ es) more h = absurd h
spans_from-closed (suc before) at (Close ∷ es) more h = spans_from-closed before at es more h

-- the spans of closed events and of others behind them, joined
pub spans-closed : (first second : List Event) → IsClosed first →
    spans (first ++ second) ≡ spans first ++ map (moved (length (text_of first))) (spans second)
spans-closed first second h =
    let n : ℕ = length (text_of first) in
    spans_from-closed 0 0 first second h ∙ ap (λ l. spans first ++ l) (ap (λ x. spans_from x second) (omega arith) ∙ spans_from-moved n 0 second)

-- the rules for the functions of `laws`
pub ruleset law_steps = (text_events-append, text_of-text_events, text_of-append, text_of-without_parts, spans-closed)
