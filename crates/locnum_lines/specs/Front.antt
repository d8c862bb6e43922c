-- A byte order mark in front of an input.
use Rattle.std.specs.Prelude.{ℕ, Bool, ◌&&◌, ◌==◌, nat_le, List, length, get_or, if◌then◌else◌}
use Rattle.locnum_lines.specs.declared.settings.Source.{Source}
use Rattle.locnum_lines.specs.declared.settings.Source.TheVariants.{Lines, Word}

-- whether bytes begin with one, which is U+FEFF in UTF-8
abbrev pub is_marked : List ℕ → Bool
is_marked bytes = nat_le 3 (length bytes) && get_or bytes 0 0 == 0xef && get_or bytes 1 0 == 0xbb && get_or bytes 2 0 == 0xbf

-- how many bytes of an input are one: an argument has none
abbrev pub mark_length : Source → List ℕ → ℕ
mark_length Lines bytes = if is_marked bytes then 3 else 0
mark_length (Word number) bytes = 0
