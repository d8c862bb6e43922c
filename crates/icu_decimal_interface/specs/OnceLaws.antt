-- Frames in which a number stands once. It stands here and not in proofs/ because impls of `Frame` cite it.
use Rattle.std.proofs.Common.{◌≡◌, ◌⊎◌, ℕ, List, [], ◌++◌, Option, Some, None, inl, inr, refl, sym, ap, ◌∙◌, append-nil, take, drop}
use Rattle.std.proofs.lemmas.List.{append_assoc}
use Rattle.icu_pattern.specs.Patterns.{around}
use Rattle.writeable.specs.Events.{Event, characters, text_events, without_parts}
use Rattle.writeable.specs.Writes.{characters-append}
use Rattle.icu_decimal_interface.specs.Once.{StandsOnce}
use Rattle.icu_decimal_interface.specs.SpellsLaws.{characters-without_parts}

-- a number alone
pub alone_stands : StandsOnce (λ (es : List Event). es)
alone_stands = record { before = []; after = []; stands = λ es. sym (append-nil (characters es)) }

-- the characters alone, without the parts
pub unparted_stands : StandsOnce (λ (es : List Event). without_parts es)
unparted_stands = record { before = []; after = []; stands = λ es. characters-without_parts es ∙ sym (append-nil (characters es)) }

-- events before what is written and events after it
pub around_stands : (before after : List Event) {written : List Event → List Event} → StandsOnce written →
    StandsOnce (λ (es : List Event). before ++ (written es ++ after))
around_stands before after {written} h = record {
  before = characters before ++ h.before;
  after = h.after ++ characters after;
  stands =
      λ es. characters-append before (written es ++ after)
      ∙ ap (λ l. characters before ++ l) (characters-append (written es) after ∙ ap (λ l. l ++ characters after) (h.stands es))
      ∙ regrouped (characters before) h.before (characters es) h.after (characters after);
}
  where
    regrouped : (a b e c d : List ℕ) → a ++ ((b ++ (e ++ c)) ++ d) ≡ (a ++ b) ++ (e ++ (c ++ d))
    regrouped a b e c d =
        ap (λ l. a ++ l) (append_assoc b (e ++ c) d ∙ ap (λ l. b ++ l) (append_assoc e c d)) ∙ sym (append_assoc a b (e ++ (c ++ d)))

-- a pattern, unless it has no placeholder
pub pattern_stands : (literal : List ℕ) (placeholder : Option ℕ) {written : List Event → List Event} → StandsOnce written →
    StandsOnce (λ (es : List Event). around literal placeholder (written es)) ⊎ (placeholder ≡ None)
pattern_stands literal None h = inr refl
pattern_stands literal (Some k) {written} h = inl (around_stands (text_events (take k literal)) (text_events (drop k literal)) h)
