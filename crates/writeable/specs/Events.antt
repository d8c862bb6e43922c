-- Annotated text as a list of events (ICU4X, `writeable::PartsWrite`).
use Rattle.std.specs.Prelude.{ℕ, List, [], ◌∷◌, map, slice_index}
use Rattle.std.specs.Str.{chars, encode_utf8_all}

-- one event of an annotated text: a character, the start of a part with the texts of its category and its value, or the end
-- of the part that was opened last and is still open
pub data Event : Type 0 where
  Char : (c : ℕ) → Event
  Open : (category value : List ℕ) → Event
  Close : Event

-- the events of a text without parts: its characters
abbrev pub text_events : List ℕ → List Event
text_events bytes = map Char (chars bytes)

-- the events without opens and closes
abbrev pub without_parts : List Event → List Event
without_parts [] = []
without_parts (Char c ∷ es) = Char c ∷ without_parts es
without_parts (Open category value ∷ es) = without_parts es
without_parts (Close ∷ es) = without_parts es

-- the codes of the characters of the events
abbrev pub characters : List Event → List ℕ
characters [] = []
characters (Char c ∷ es) = c ∷ characters es
characters (Open category value ∷ es) = characters es
characters (Close ∷ es) = characters es

-- the text of the events: their characters in UTF-8
abbrev pub text_of : List Event → List ℕ
text_of es = encode_utf8_all (characters es)

-- the character of each digit, by a table of the characters of the digits 0 to 9
abbrev pub digit_events : List ℕ → List ℕ → List Event
digit_events characters digits = map (λ d. Char (slice_index characters d)) digits

-- the characters '0' to '9'
abbrev pub ascii_characters : List ℕ
ascii_characters = 48 ∷ 49 ∷ 50 ∷ 51 ∷ 52 ∷ 53 ∷ 54 ∷ 55 ∷ 56 ∷ 57 ∷ []
