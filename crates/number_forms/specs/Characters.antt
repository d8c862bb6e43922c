-- The characters that are shown for those of a text.
use Rattle.std.specs.Prelude.{ℕ, Bool, ◌||◌, ◌&&◌, ◌==◌, nat_le, nat_lt, List, map, if◌then◌else◌}
use Rattle.std.specs.Str.{encode_utf8_all}

-- whether a character stands in a range
abbrev pub is_between : ℕ → ℕ → ℕ → Bool
is_between first last c = nat_le first c && nat_le c last

-- Whether a character isn't seen, ends a line, or turns the text around it: the control characters C0, DEL and C1, the ends of
-- lines and paragraphs U+2028 and U+2029, and the marks, embeddings, overrides and isolates of the bidirectional algorithm.
abbrev pub is_hidden : ℕ → Bool
is_hidden c = nat_lt c 32 || is_between 0x7f 0x9f c || c == 0x61c || is_between 0x200e 0x200f c || is_between 0x2028 0x202e c || is_between 0x2066 0x2069 c

-- the character that is shown in the place of one: a question mark for such a character
unfoldable pub visible : ℕ → ℕ
visible c = if is_hidden c then 63 else c

-- the bytes of characters as they are shown
unfoldable pub visible_text : List ℕ → List ℕ
visible_text cs = encode_utf8_all (map visible cs)

-- a byte of a text that isn't UTF-8, as a character: itself where it is ASCII, else a question mark
abbrev pub from_byte : ℕ → ℕ
from_byte b = if nat_lt b 128 then b else 63
