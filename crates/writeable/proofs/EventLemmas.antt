-- Lemmas on the events of a text.
use Rattle.std.specs.Prelude.{◌≡◌, ℕ, List, ◌++◌, map, [], ◌∷◌, slice_index}
use Rattle.std.specs.Str.{chars, encode_utf8_all, IsUtf8}
use Rattle.std.specs.Char.{IsScalar, encode_utf8}
use Rattle.std.proofs.Common.{ap, ◌∙◌, refl, sym, append-nil}
use Rattle.std.proofs.lemmas.Str.{encodes-chars, chars-encodes, chars-append, chars-nil}
use Rattle.std.proofs.lemmas.List.{map-append}
use Rattle.writeable.specs.Events.{text_events, digit_events, text_of, without_parts, characters}
use Rattle.writeable.specs.Events.Event.{Char}

-- the characters of a list of characters as events
pub characters-map_Char : (cs : List ℕ) → characters (map Char cs) ≡ cs
characters-map_Char [] = refl
characters-map_Char (c ∷ cs) = ap (λ l. c ∷ l) (characters-map_Char cs)

without_parts-map_Char : (cs : List ℕ) → without_parts (map Char cs) ≡ map Char cs
without_parts-map_Char [] = refl
without_parts-map_Char (c ∷ cs) = ap (λ l. Char c ∷ l) (without_parts-map_Char cs)

-- the events of a text have no parts
pub without_parts-text_events : (bs : List ℕ) → without_parts (text_events bs) ≡ text_events bs
without_parts-text_events bs = without_parts-map_Char (chars bs)

-- the text of the events of a text is that text
pub text_of-text_events : (bs : List ℕ) → IsUtf8 bs → text_of (text_events bs) ≡ bs
text_of-text_events bs h = ap encode_utf8_all (characters-map_Char (chars bs)) ∙ encodes-chars bs h

-- an empty text has no events
pub text_events-nil : text_events [] ≡ []
text_events-nil = ap (map Char) chars-nil

-- the events of a joined text are those of its pieces
pub text_events-append : (xs ys : List ℕ) → IsUtf8 xs → text_events (xs ++ ys) ≡ text_events xs ++ text_events ys
text_events-append xs ys h = ap (map Char) (chars-append xs ys h) ∙ map-append Char (chars xs) (chars ys)

-- the events of one character
pub text_events-encode : (c : ℕ) → IsScalar c → text_events (encode_utf8 c) ≡ Char c ∷ []
text_events-encode c h = ap (map Char) (ap chars (sym (append-nil (encode_utf8 c))) ∙ chars-encodes (c ∷ []) (rw h refl))

-- the rules for the events of a text
pub ruleset text_steps = (text_of-text_events, without_parts-text_events)

-- digits have no parts
pub without_parts-digit_events : (characters digits : List ℕ) → without_parts (digit_events characters digits) ≡ digit_events characters digits
without_parts-digit_events characters [] = refl
without_parts-digit_events characters (d ∷ ds) = ap (λ l. Char (slice_index characters d) ∷ l) (without_parts-digit_events characters ds)

-- the rule for the events of digits
pub ruleset digit_steps = (without_parts-digit_events)
