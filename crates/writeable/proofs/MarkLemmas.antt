-- Lemmas on a text with marks.
-- A text with marks gives its events from the front, and calls push text and marks at the end. So each lemma on pushing is an induction over
-- the marks, for any text and any offset `from` at which that text begins; the step cuts the text at the first mark by `take` and `drop`, and
-- `append_assoc` moves what was pushed past it. The text and the events without parts are read off by the same induction, with EventLemmas for
-- the stretch before a mark. An induction over the text doesn't go, since several marks may stand at one offset.
-- A limit is kept as the room that is left, so that a call takes its own room and counts no events (`limit_of-one_less`).
use Rattle.std.specs.Prelude.{◌≡◌, ◌≤◌, ℕ, ◌+◌, ◌-◌, List, [], ◌∷◌, ◌++◌, length, take, drop, Option, Some, None, IfSome, Ok}
use Rattle.std.specs.Option.{option_map}
use Rattle.std.specs.Str.{IsUtf8}
use Rattle.std.specs.Char.{IsScalar, encode_utf8}
use Rattle.std.proofs.Common.{ap, ◌∙◌, sym, arith, append_assoc, refl, subst}
use Rattle.std.proofs.lemmas.Str.{IsUtf8-append, IsUtf8-nil}
use Rattle.std.proofs.lemmas.List.{take-append-le, drop-append-le, take-append-drop, take_all, drop_all, length-drop, length-append, length_push}
use Rattle.writeable.specs.declared.parts_text.Mark.{Mark}
use Rattle.writeable.specs.declared.parts_text.Mark.TheVariants.{Open, Close}
use Rattle.writeable.specs.Events.{Event, text_events, text_of, without_parts}
use Rattle.writeable.specs.Events.Event.{Char}
use Rattle.writeable.specs.declared.parts_text.PartsText.TheInside.{Inside}
use Rattle.writeable.specs.Annotated.{Annotated, IsWithinLimit}
use Rattle.writeable.specs.Sink.{WritesAll, KeepsLimit}
use Rattle.writeable.specs.Marks.{mark_at, mark_event, marked_events, AreMarks, kept_events, annotated}
use Rattle.writeable.specs.Writes.{text_of-append, without_parts-append}
use Rattle.writeable.proofs.EventLemmas.{text_events-append, text_events-nil, text_events-encode, text_of-text_events, without_parts-text_events}

-- more text at the end: its events are added
pub marked_events-text : (from : ℕ) (text more : List ℕ) (ms : List Mark) → AreMarks from text ms →
    marked_events from (text ++ more) ms ≡ marked_events from text ms ++ text_events more
marked_events-text from text more [] h = text_events-append text more h
marked_events-text from text more (m ∷ ms) h =
    let k : ℕ = mark_at m - from in
    let rest = marked_events-text (mark_at m) (drop k text) more ms h.3 in
    rw (take-append-le k text more h.1, drop-append-le k text more h.1, rest)
    (sym (append_assoc (text_events (take k text)) (mark_event m ∷ marked_events (mark_at m) (drop k text) ms) (text_events more)))

-- one more character at the end: its event is added
pub marked_events-char : (old new : List ℕ) (ms : List Mark) (c : ℕ) → new ≡ old ++ encode_utf8 c → IsScalar c → AreMarks 0 old ms →
    marked_events 0 new ms ≡ marked_events 0 old ms ++ Char c ∷ []
marked_events-char old new ms c e scalar h =
    ap (λ t. marked_events 0 t ms) e ∙ marked_events-text 0 old (encode_utf8 c) ms h ∙ ap (λ l. marked_events 0 old ms ++ l) (text_events-encode c scalar)

-- marks stay marks of a longer text
pub AreMarks-text : (from : ℕ) (text more : List ℕ) (ms : List Mark) → IsUtf8 more → AreMarks from text ms → AreMarks from (text ++ more) ms
AreMarks-text from text more [] u h = IsUtf8-append text more h u
AreMarks-text from text more (m ∷ ms) u h =
    let k : ℕ = mark_at m - from in (
      h.0,
      omega (arith, length-append text more, h.1),
      rw (take-append-le k text more h.1) h.2,
      rw (drop-append-le k text more h.1) (AreMarks-text (mark_at m) (drop k text) more ms u h.3),
    )

-- one more mark at the end: its event is added
pub marked_events-mark : (from : ℕ) (text : List ℕ) (ms : List Mark) (m : Mark) → mark_at m ≡ from + length text → AreMarks from text ms →
    marked_events from text (ms ++ m ∷ []) ≡ marked_events from text ms ++ mark_event m ∷ []
marked_events-mark from text [] m e h =
    let k : ℕ = mark_at m - from in
    let whole : length text ≤ k = omega arith in
    rw (take_all k text whole, drop_all k text whole, text_events-nil) refl
marked_events-mark from text (p ∷ ms) m e h =
    let k : ℕ = mark_at p - from in
    let here : mark_at m ≡ mark_at p + length (drop k text) = omega (arith, length-drop k text, h.0, h.1) in
    rw (marked_events-mark (mark_at p) (drop k text) ms m here h.3)
    (sym (append_assoc (text_events (take k text)) (mark_event p ∷ marked_events (mark_at p) (drop k text) ms) (mark_event m ∷ [])))

-- a mark at the end of the text is one more mark
pub AreMarks-mark : (from : ℕ) (text : List ℕ) (ms : List Mark) (m : Mark) → mark_at m ≡ from + length text → AreMarks from text ms →
    AreMarks from text (ms ++ m ∷ [])
AreMarks-mark from text [] m e h =
    let k : ℕ = mark_at m - from in
    let whole : length text ≤ k = omega arith in
    (omega arith, omega arith, rw (take_all k text whole) h, rw (drop_all k text whole) IsUtf8-nil)
AreMarks-mark from text (p ∷ ms) m e h =
    let k : ℕ = mark_at p - from in
    let here : mark_at m ≡ mark_at p + length (drop k text) = omega (arith, length-drop k text, h.0, h.1) in
    (h.0, h.1, h.2, AreMarks-mark (mark_at p) (drop k text) ms m here h.3)

-- the events after a mark was pushed at the end of the text
pub marked_events-pushed : (text : List ℕ) (old new : List Mark) (m : Mark) (e : Event) → new ≡ old ++ m ∷ [] → mark_at m ≡ 0 + length text →
    mark_event m ≡ e → AreMarks 0 text old → marked_events 0 text new ≡ marked_events 0 text old ++ e ∷ []
marked_events-pushed text old new m e pushed end event h =
    ap (marked_events 0 text) pushed ∙ marked_events-mark 0 text old m end h ∙ ap (λ x. marked_events 0 text old ++ x ∷ []) event

-- a mark adds nothing to the text
text_of-mark : (m : Mark) (es : List Event) → text_of (mark_event m ∷ es) ≡ text_of es
text_of-mark (Open at part) es = refl
text_of-mark (Close at) es = refl

-- the text of the events of a text with marks
pub text_of-marked_events : (from : ℕ) (text : List ℕ) (ms : List Mark) → AreMarks from text ms → text_of (marked_events from text ms) ≡ text
text_of-marked_events from text [] h = text_of-text_events text h
text_of-marked_events from text (m ∷ ms) h =
    let k : ℕ = mark_at m - from in
    let rest = text_of-marked_events (mark_at m) (drop k text) ms h.3 in
    let first = text_of-text_events (take k text) h.2 in
    text_of-append (text_events (take k text)) (mark_event m ∷ marked_events (mark_at m) (drop k text) ms)
    ∙ ap (λ l. l ++ text_of (mark_event m ∷ marked_events (mark_at m) (drop k text) ms)) first
    ∙ ap (λ l. take k text ++ l) (text_of-mark m (marked_events (mark_at m) (drop k text) ms) ∙ rest)
    ∙ take-append-drop k text

-- a mark is left out with the parts
without_parts-mark : (m : Mark) (es : List Event) → without_parts (mark_event m ∷ es) ≡ without_parts es
without_parts-mark (Open at part) es = refl
without_parts-mark (Close at) es = refl

-- the events of a text with marks, without their parts, are those of the text
pub without_parts-marked_events : (from : ℕ) (text : List ℕ) (ms : List Mark) → AreMarks from text ms →
    without_parts (marked_events from text ms) ≡ text_events text
without_parts-marked_events from text [] h = without_parts-text_events text
without_parts-marked_events from text (m ∷ ms) h =
    let k : ℕ = mark_at m - from in
    let rest = without_parts-marked_events (mark_at m) (drop k text) ms h.3 in
    without_parts-append (text_events (take k text)) (mark_event m ∷ marked_events (mark_at m) (drop k text) ms)
    ∙ ap (λ l. l ++ without_parts (mark_event m ∷ marked_events (mark_at m) (drop k text) ms)) (without_parts-text_events (take k text))
    ∙ ap (λ l. text_events (take k text) ++ l) (without_parts-mark m (marked_events (mark_at m) (drop k text) ms) ∙ rest)
    ∙ sym (text_events-append (take k text) (drop k text) h.2)
    ∙ ap text_events (take-append-drop k text)

-- the limit of what is kept: the events that are held, and the room that is left
abbrev limit_of : ℕ → Option ℕ → Option ℕ
limit_of n room = option_map (λ left. n + left) room

limit_of-one_less : (n m : ℕ) (old less : Option ℕ) → m ≡ n + 1 → option_map (λ left. left + 1) less ≡ old → limit_of m less ≡ limit_of n old
limit_of-one_less n m old None e h = subst (λ o. limit_of m None ≡ limit_of n o) h refl
limit_of-one_less n m old (Some l) e h = subst (λ o. limit_of m (Some l) ≡ limit_of n o) h (let same : m + l ≡ n + (l + 1) = omega arith in ap Some same)

within-limit_of : (n : ℕ) (room : Option ℕ) → IfSome (limit_of n room) (λ k. n ≤ k)
within-limit_of n None = tt
within-limit_of n (Some l) = omega arith

-- what a sink holds is within its limit
pub IsWithinLimit-annotated : (a : Inside) → IsWithinLimit (annotated a)
IsWithinLimit-annotated a = within-limit_of (length (kept_events a)) a.room

-- a call that added all its events wrote all of them
pub WritesAll-kept : (a b : Inside) (old : Annotated) (es : List Event) → annotated a ≡ old → kept_events b ≡ kept_events a ++ es →
    b.failures ≡ a.failures → WritesAll (λ (s : Annotated). s.events) (λ s. s.failures) old es (annotated b)
WritesAll-kept a b old es view e f = record {
  held = e ∙ ap (λ (s : Annotated). s.events ++ es) view;
  same_failures =
      f ∙ ap (λ (s : Annotated). s.failures) view;
}

-- a call that added one event, and took the room of one, keeps the limit
pub KeepsLimit-one : (a b : Inside) (old : Annotated) (e : Event) → annotated a ≡ old → kept_events b ≡ kept_events a ++ e ∷ [] →
    option_map (λ left. left + 1) b.room ≡ a.room → b.refusals ≡ a.refusals →
    KeepsLimit (λ (s : Annotated). s.events) (λ s. s.limit) (λ s. s.refusals) old (Ok tt) (e ∷ []) (annotated b)
KeepsLimit-one a b old e view kept less same =
    let more : length (kept_events b) ≡ length (kept_events a) + 1 = ap length kept ∙ length_push (kept_events a) e in
    record {
      same_limit = limit_of-one_less (length (kept_events a)) (length (kept_events b)) a.room b.room more less ∙ ap (λ (s : Annotated). s.limit) view;
      same_refusals = same ∙ ap (λ (s : Annotated). s.refusals) view;
      fault = tt;
    }

-- the rules for the functions of `parts_text`
pub ruleset mark_steps = (text_events-nil, text_of-marked_events, without_parts-marked_events, marked_events-text, marked_events-mark)
