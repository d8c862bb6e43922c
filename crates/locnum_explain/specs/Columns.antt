-- The columns of a text on a terminal, and whether a terminal may turn it around.
use Rattle.std.specs.Prelude.{ℕ, Bool, false, ◌||◌, ◌&&◌, ◌==◌, nat_le, List, length, take, if◌then◌else◌}
use Rattle.std.specs.List.{list_any}
use Rattle.std.specs.Str.{chars, is_utf8}
use Rattle.unicode_width.specs.Width.{str_width}

-- the columns that a text takes on a terminal; of bytes that aren't UTF-8, their count
unfoldable pub columns_of : List ℕ → ℕ
columns_of text = if is_utf8 text then str_width false (chars text) else length text

-- the columns that this many first bytes of a text take
abbrev pub column_at : List ℕ → ℕ → ℕ
column_at text bytes = columns_of (take bytes text)

-- whether a character stands in a range
abbrev pub is_between : ℕ → ℕ → ℕ → Bool
is_between first last c = nat_le first c && nat_le c last

-- Whether a character is written from right to left, or makes a terminal do so: the blocks of such scripts (Hebrew to Arabic
-- Extended-A, the presentation forms, and those above U+10000), their mark, and the characters that embed, override and isolate.
abbrev pub runs_leftward : ℕ → Bool
runs_leftward c =
    is_between 0x590 0x8ff c || c == 0x200f || c == 0x202b || c == 0x202e || c == 0x2067 || is_between 0xfb1d 0xfdff c || is_between 0xfe70 0xfefc c
    || is_between 0x10800 0x10fff c || is_between 0x1e800 0x1efff c

-- whether a terminal may turn a part of the text around
abbrev pub is_turned : List ℕ → Bool
is_turned text = list_any runs_leftward (chars text)
