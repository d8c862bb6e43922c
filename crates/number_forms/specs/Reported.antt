-- A text of the input as notes and explanations show it.
use Rattle.std.specs.Prelude.{ℕ, ◌-◌, nat_le, List, ◌++◌, length, map, take, drop, codes, decimal, if◌then◌else◌}
use Rattle.std.specs.Char.{is_ascii_whitespace}
use Rattle.std.specs.List.{list_all}
use Rattle.std.specs.Str.{chars, is_utf8}
use Rattle.number_forms.specs.Characters.{from_byte, visible_text}

-- how long a text is that is cut
unfoldable pub length_text : ℕ → List ℕ
length_text n = codes " (" ++ decimal n ++ codes " characters)"

-- that many characters from one on
abbrev pub part_from : ℕ → ℕ → List ℕ → List ℕ
part_from start count cs = take count (drop start cs)

-- at most 60 characters; of more the first 28, the last 28, and how many they are
unfoldable pub shortened : List ℕ → List ℕ
shortened cs =
    if nat_le (length cs) 60 then visible_text cs
    else visible_text (part_from 0 28 cs) ++ codes ".." ++ visible_text (part_from (length cs - 28) 28 cs) ++ length_text (length cs)

-- the characters of a text: those of UTF-8, or where it isn't UTF-8 one for each byte
abbrev pub characters : List ℕ → List ℕ
characters text = if is_utf8 text then chars text else map from_byte text

-- a text of the input; of one without anything but blanks that it is empty
unfoldable pub reported : List ℕ → List ℕ
reported text = if list_all is_ascii_whitespace text then codes "(empty)" else shortened (characters text)
