-- The texts of digits in groups.
use Rattle.std.specs.Prelude.{◌≡◌, ℕ, Option, Some, None, List, [], ◌∷◌, ◌++◌}
use Rattle.std.specs.Str.{IsUtf8}
use Rattle.std.proofs.Common.{refl, sym, ap, ◌∙◌, append-nil, append_assoc}
use Rattle.writeable.specs.declared.groups.Grouping.{Grouping}
use Rattle.writeable.specs.declared.sink.Part.{Part}
use Rattle.writeable.specs.Events.{Event, text_events, digit_events, without_parts, text_of}
use Rattle.writeable.specs.Events.Event.{Close}
use Rattle.writeable.specs.Groups.{cut, joined, joined_after, group_events, group_texts, text_in, separator_events, grouped_events}
use Rattle.writeable.specs.Writes.{without_parts-append, text_of-append}
use Rattle.writeable.proofs.EventLemmas.{without_parts-text_events, without_parts-digit_events, text_of-text_events}

-- the events of a text in a part, without their parts, are those of the text
without_parts-text_in : (part : Option Part) (text : List ℕ) → without_parts (text_in part text) ≡ text_events text
without_parts-text_in None text = without_parts-text_events text
without_parts-text_in (Some part) text = without_parts-append (text_events text) (Close ∷ []) ∙ append-nil (without_parts (text_events text))
    ∙ without_parts-text_events text

without_parts-joined_after : (separator : List Event) (cs : List ℕ) (gs : List (List ℕ)) →
    without_parts (joined_after separator (group_events cs gs)) ≡ joined_after (without_parts separator) (group_events cs gs)
without_parts-joined_after separator cs [] = refl
without_parts-joined_after separator cs (g ∷ gs) =
    without_parts-append separator (digit_events cs g ++ joined_after separator (group_events cs gs))
    ∙ ap (λ (l : List Event). without_parts separator ++ l) (
    without_parts-append (digit_events cs g) (joined_after separator (group_events cs gs))
    ∙ ap (λ (l : List Event). l ++ without_parts (joined_after separator (group_events cs gs))) (without_parts-digit_events cs g)
    ∙ ap (λ (l : List Event). digit_events cs g ++ l) (without_parts-joined_after separator cs gs)
    )

without_parts-joined : (separator : List Event) (cs : List ℕ) (gs : List (List ℕ)) →
    without_parts (joined separator (group_events cs gs)) ≡ joined (without_parts separator) (group_events cs gs)
without_parts-joined separator cs [] = refl
without_parts-joined separator cs (g ∷ gs) =
    without_parts-append (digit_events cs g) (joined_after separator (group_events cs gs))
    ∙ ap (λ (l : List Event). l ++ without_parts (joined_after separator (group_events cs gs))) (without_parts-digit_events cs g)
    ∙ ap (λ (l : List Event). digit_events cs g ++ l) (without_parts-joined_after separator cs gs)

-- the events of digits in groups, without their parts, are those of groups whose separator is no part
pub without_parts-grouped : (grouping other : Grouping) (cs ds : List ℕ) → other.primary ≡ grouping.primary → other.secondary ≡ grouping.secondary →
    other.separator ≡ grouping.separator → other.part ≡ None → grouped_events other cs ds ≡ without_parts (grouped_events grouping cs ds)
without_parts-grouped grouping other cs ds e f h k =
    let gs = cut grouping.primary grouping.secondary ds in
    rw (e, f, h, k) (sym (without_parts-joined (separator_events grouping) cs gs
    ∙ ap (λ (l : List Event). joined l (group_events cs gs)) (without_parts-text_in grouping.part grouping.separator.now)))

-- the rule for digits in groups
pub ruleset group_steps = (without_parts-grouped)

-- the text of the separator
pub text_of-text_in : (part : Option Part) (text : List ℕ) → IsUtf8 text → text_of (text_in part text) ≡ text
text_of-text_in None text h = text_of-text_events text h
text_of-text_in (Some part) text h = text_of-append (text_events text) (Close ∷ []) ∙ append-nil (text_of (text_events text)) ∙ text_of-text_events text h

text_of-joined_after : (separator : List Event) (cs : List ℕ) (gs : List (List ℕ)) →
    text_of (joined_after separator (group_events cs gs)) ≡ joined_after (text_of separator) (group_texts cs gs)
text_of-joined_after separator cs [] = refl
text_of-joined_after separator cs (g ∷ gs) =
    text_of-append separator (digit_events cs g ++ joined_after separator (group_events cs gs))
    ∙ ap (λ (l : List ℕ). text_of separator ++ l) (
    text_of-append (digit_events cs g) (joined_after separator (group_events cs gs))
    ∙ ap (λ (l : List ℕ). text_of (digit_events cs g) ++ l) (text_of-joined_after separator cs gs)
    )

text_of-joined : (separator : List Event) (cs : List ℕ) (gs : List (List ℕ)) →
    text_of (joined separator (group_events cs gs)) ≡ joined (text_of separator) (group_texts cs gs)
text_of-joined separator cs [] = refl
text_of-joined separator cs (g ∷ gs) =
    text_of-append (digit_events cs g) (joined_after separator (group_events cs gs))
    ∙ ap (λ (l : List ℕ). text_of (digit_events cs g) ++ l) (text_of-joined_after separator cs gs)

-- the text of digits in groups
pub text_of-grouped : (grouping : Grouping) (cs ds : List ℕ) → IsUtf8 grouping.separator.now →
    text_of (grouped_events grouping cs ds) ≡ joined grouping.separator.now (group_texts cs (cut grouping.primary grouping.secondary ds))
text_of-grouped grouping cs ds h =
    let gs = cut grouping.primary grouping.secondary ds in
    text_of-joined (separator_events grouping) cs gs ∙ ap (λ (l : List ℕ). joined l (group_texts cs gs))
    (text_of-text_in grouping.part grouping.separator.now h)

-- what is written before and after the first group
pub texts_begin : (old out cs g rest all : List ℕ) → out ≡ old ++ text_of (digit_events cs g) → all ≡ text_of (digit_events cs g) ++ rest →
    out ++ rest ≡ old ++ all
texts_begin old out cs g rest all e f = ap (λ (l : List ℕ). l ++ rest) e ∙ append_assoc old (text_of (digit_events cs g)) rest
    ∙ ap (λ (l : List ℕ). old ++ l) (sym f)

-- bytes to which a separator and the next group are appended
pub texts_grow : (old out mid new separator cs g all : List ℕ) (hs gs : List (List ℕ)) → hs ≡ g ∷ gs →
    out ++ joined_after separator (group_texts cs hs) ≡ old ++ all → mid ≡ out ++ separator → new ≡ mid ++ text_of (digit_events cs g) →
    new ++ joined_after separator (group_texts cs gs) ≡ old ++ all
texts_grow old out mid new separator cs g all hs gs first e f h =
    let rest = joined_after separator (group_texts cs gs) in
    let t = text_of (digit_events cs g) in
    ap (λ (l : List ℕ). l ++ rest) (h ∙ ap (λ (l : List ℕ). l ++ t) f ∙ append_assoc out separator t)
    ∙ append_assoc out (separator ++ t) rest
    ∙ ap (λ (l : List ℕ). out ++ l) (append_assoc separator t rest)
    ∙ (rw first at e)
