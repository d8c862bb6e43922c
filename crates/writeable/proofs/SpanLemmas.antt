-- Lemmas on the spans of events, and of a text with marks.
use Rattle.std.specs.Prelude.{◌≡◌, ℕ, zero, suc, ◌+◌, ◌-◌, List, [], ◌∷◌, ◌++◌, map, reverse, length, take, drop, slice_get}
use Rattle.std.specs.Char.{encode_utf8}
use Rattle.std.specs.Str.{chars, encode_utf8_all}
use Rattle.std.proofs.Common.{ap, ◌∙◌, sym, refl, arith, add-zero}
use Rattle.std.proofs.lemmas.Str.{encodes-chars}
use Rattle.std.proofs.lemmas.List.{length-append, length-take-le, map-append, reverse-append}
use Rattle.writeable.specs.declared.parts_text.Mark.{Mark}
use Rattle.writeable.specs.declared.parts_text.Mark.TheVariants.{Open, Close}
use Rattle.writeable.specs.Events.{Event}
use Rattle.writeable.specs.Events.Event.{Char, Open as OpenPart, Close as ClosePart}
use Rattle.writeable.specs.Spans.{Span, spans_from, span_of, end_of_part}
use Rattle.writeable.specs.Marks.{mark_at, mark_event, marked_events, AreMarks}

-- the bytes at which those closes stand whose opening comes before the events; these begin at byte `at`
abbrev pub event_closes : ℕ → List Event → List ℕ
event_closes at [] = []
event_closes at (Char c ∷ es) = event_closes (at + length (encode_utf8 c)) es
event_closes at (OpenPart category value ∷ es) = drop 1 (event_closes at es)
event_closes at (ClosePart ∷ es) = at ∷ event_closes at es

-- the bytes at which those closes stand whose opening comes before the marks
abbrev pub mark_closes : List Mark → List ℕ
mark_closes [] = []
mark_closes (Open at part ∷ ms) = drop 1 (mark_closes ms)
mark_closes (Close at ∷ ms) = at ∷ mark_closes ms

-- the spans of marks
abbrev pub mark_spans : List Mark → List Span
mark_spans [] = []
mark_spans (Open at part ∷ ms) = span_of at (slice_get (mark_closes ms) 0) part.category.now part.value.now ++ mark_spans ms
mark_spans (Close at ∷ ms) = mark_spans ms

slice_get-rest : (xs : List ℕ) (k : ℕ) → slice_get (drop 1 xs) k ≡ slice_get xs (suc k)
slice_get-rest [] k = refl
slice_get-rest (x ∷ xs) k = refl

-- a part inside of which `inner` parts are open ends at the close with index `inner` of those of `event_closes`
pub end_of_part-event_closes : (inner at : ℕ) (es : List Event) → end_of_part inner at es ≡ slice_get (event_closes at es) inner
end_of_part-event_closes inner at [] = refl
end_of_part-event_closes inner at (Char c ∷ es) = end_of_part-event_closes inner (at + length (encode_utf8 c)) es
end_of_part-event_closes inner at (OpenPart category value ∷ es) =
    end_of_part-event_closes (suc inner) at es ∙ sym (slice_get-rest (event_closes at es) inner)
end_of_part-event_closes zero at (ClosePart ∷ es) = refl
end_of_part-event_closes (suc inner) at (ClosePart ∷ es) = end_of_part-event_closes inner at es

-- behind characters the events begin further on by their bytes
event_closes-chars : (at : ℕ) (cs : List ℕ) (es : List Event) → event_closes at (map Char cs ++ es) ≡ event_closes (at + length (encode_utf8_all cs)) es
event_closes-chars at [] es = ap (λ n. event_closes n es) (sym (add-zero at))
event_closes-chars at (c ∷ cs) es = event_closes-chars (at + length (encode_utf8 c)) cs es
    ∙ ap (λ n. event_closes n es) (omega (arith, length-append (encode_utf8 c) (encode_utf8_all cs)))

spans_from-chars : (at : ℕ) (cs : List ℕ) (es : List Event) → spans_from at (map Char cs ++ es) ≡ spans_from (at + length (encode_utf8_all cs)) es
spans_from-chars at [] es = ap (λ n. spans_from n es) (sym (add-zero at))
spans_from-chars at (c ∷ cs) es = spans_from-chars (at + length (encode_utf8 c)) cs es
    ∙ ap (λ n. spans_from n es) (omega (arith, length-append (encode_utf8 c) (encode_utf8_all cs)))

event_closes-only_chars : (at : ℕ) (cs : List ℕ) → event_closes at (map Char cs) ≡ []
event_closes-only_chars at [] = refl
event_closes-only_chars at (c ∷ cs) = event_closes-only_chars (at + length (encode_utf8 c)) cs

spans_from-only_chars : (at : ℕ) (cs : List ℕ) → spans_from at (map Char cs) ≡ []
spans_from-only_chars at [] = refl
spans_from-only_chars at (c ∷ cs) = spans_from-only_chars (at + length (encode_utf8 c)) cs

-- the characters before a mark end at the byte of the mark
offset_of_mark : (from : ℕ) (text : List ℕ) (m : Mark) (ms : List Mark) → AreMarks from text (m ∷ ms) →
    from + length (encode_utf8_all (chars (take (mark_at m - from) text))) ≡ mark_at m
offset_of_mark from text m ms h =
    let piece : List ℕ = take (mark_at m - from) text in
    let size : length (encode_utf8_all (chars piece)) ≡ mark_at m - from =
    ap length (encodes-chars piece h.2) ∙ length-take-le (mark_at m - from) text h.1 in
    omega (arith, h.0)

event_closes-marked : (from : ℕ) (text : List ℕ) (ms : List Mark) → AreMarks from text ms →
    event_closes from (marked_events from text ms) ≡ mark_closes ms
event_closes-marked from text [] h = event_closes-only_chars from (chars text)
event_closes-marked from text (Open at part ∷ ms) h =
    event_closes-chars from (chars (take (at - from) text)) _
    ∙ ap (λ n. drop 1 (event_closes n (marked_events at (drop (at - from) text) ms))) (offset_of_mark from text (Open at part) ms h)
    ∙ ap (λ (l : List ℕ). drop 1 l) (event_closes-marked at (drop (at - from) text) ms h.3)
event_closes-marked from text (Close at ∷ ms) h =
    event_closes-chars from (chars (take (at - from) text)) _
    ∙ ap (λ n. n ∷ event_closes n (marked_events at (drop (at - from) text) ms)) (offset_of_mark from text (Close at) ms h)
    ∙ ap (λ (l : List ℕ). at ∷ l) (event_closes-marked at (drop (at - from) text) ms h.3)

-- the spans of a text with marks are those of the marks
pub spans_from-marked : (from : ℕ) (text : List ℕ) (ms : List Mark) → AreMarks from text ms →
    spans_from from (marked_events from text ms) ≡ mark_spans ms
spans_from-marked from text [] h = spans_from-only_chars from (chars text)
spans_from-marked from text (Open at part ∷ ms) h =
    let rest : List Event = marked_events at (drop (at - from) text) ms in
    let closed : end_of_part 0 at rest ≡ slice_get (mark_closes ms) 0 =
    end_of_part-event_closes 0 at rest ∙ ap (λ (l : List ℕ). slice_get l 0) (event_closes-marked at (drop (at - from) text) ms h.3) in
    spans_from-chars from (chars (take (at - from) text)) (mark_event (Open at part) ∷ rest)
    ∙ ap (λ n. spans_from n (mark_event (Open at part) ∷ rest)) (offset_of_mark from text (Open at part) ms h)
    ∙ ap (λ o. span_of at o part.category.now part.value.now ++ spans_from at rest) closed
    ∙ ap (λ (l : List Span). span_of at (slice_get (mark_closes ms) 0) part.category.now part.value.now ++ l)
    (spans_from-marked at (drop (at - from) text) ms h.3)
spans_from-marked from text (Close at ∷ ms) h =
    let rest : List Event = marked_events at (drop (at - from) text) ms in
    spans_from-chars from (chars (take (at - from) text)) (ClosePart ∷ rest)
    ∙ ap (λ n. spans_from n (ClosePart ∷ rest)) (offset_of_mark from text (Close at) ms h)
    ∙ spans_from-marked at (drop (at - from) text) ms h.3

-- mapping and reversing a list commute
pub map-reverse : {A : Type 0} {B : Type 0} (f : A → B) (xs : List A) → map f (reverse xs) ≡ reverse (map f xs)
map-reverse f [] = refl
map-reverse f (x ∷ xs) = ap (map f) (reverse-append (x ∷ []) xs) ∙ map-append f (reverse xs) (x ∷ []) ∙ ap (λ l. l ++ f x ∷ []) (map-reverse f xs)
    ∙ sym (reverse-append (f x ∷ []) (map f xs))
