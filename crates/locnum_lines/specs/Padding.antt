-- Numbers that are filled up with spaces to a width.
use Rattle.std.specs.Prelude.{ℕ, ◌-◌, false, List, ◌++◌, length, replicate, Option, Some, None, if◌then◌else◌}
use Rattle.std.specs.Str.{chars, is_utf8}
use Rattle.unicode_width.specs.Width.{str_width}
use Rattle.locnum_lines.specs.declared.padding.Alignment.{Alignment}
use Rattle.locnum_lines.specs.declared.padding.Alignment.TheVariants.{Left, Right}
use Rattle.locnum_lines.specs.declared.padding.Width.{Width}

-- the columns that a text takes on a terminal; of bytes that aren't UTF-8, their count
unfoldable pub columns_of : List ℕ → ℕ
columns_of text = if is_utf8 text then str_width false (chars text) else length text

-- that many spaces
abbrev pub spaces : ℕ → List ℕ
spaces n = replicate n 32

-- a text, and that many spaces on the side on which it doesn't stand
abbrev pub aligned : Alignment → ℕ → List ℕ → List ℕ
aligned Left n text = text ++ spaces n
aligned Right n text = spaces n ++ text

-- a text that takes that many columns at least
abbrev pub padded : Option Width → List ℕ → List ℕ
padded None text = text
padded (Some width) text = aligned width.alignment (width.columns - columns_of text) text
