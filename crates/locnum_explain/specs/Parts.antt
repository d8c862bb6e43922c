-- The lines of the parts of a text: each underlined, or where that isn't possible each by itself.
use Rattle.std.specs.Prelude.{ℕ, ◌+◌, ◌-◌, Bool, not, ◌&&◌, nat_le, List, ◌++◌, length, take, drop, replicate, codes, if◌then◌else◌}
use Rattle.std.specs.List.{flat_map, list_all}
use Rattle.writeable.specs.Spans.{Span}
use Rattle.locnum_explain.specs.Columns.{columns_of, column_at, is_turned}

-- that many spaces
abbrev pub spaces : ℕ → List ℕ
spaces n = replicate n 32

-- a line that marks a part under the text, which begins in column 2; the name stands behind the text's columns
abbrev pub mark_line : List ℕ → Span → List ℕ
mark_line text s =
    codes "  " ++ spaces (column_at text s.start) ++ replicate (column_at text s.end - column_at text s.start) 94
    ++ spaces (columns_of text - column_at text s.end) ++ codes "  " ++ s.value ++ codes "\n"

-- a line with the name of a part, and its bytes from column 13 on
abbrev pub listed_line : List ℕ → Span → List ℕ
listed_line text s = codes "  " ++ s.value ++ spaces (11 - length s.value) ++ take (s.end - s.start) (drop s.start text) ++ codes "\n"

-- whether the line that marks a part isn't wider than that many columns
abbrev pub has_room : ℕ → ℕ → Span → Bool
has_room columns width s = nat_le (columns + length s.value + 4) width

-- whether the parts of a text are marked under it: each line has room, and no terminal turns a part of the text around
abbrev pub are_marked : ℕ → List ℕ → List Span → Bool
are_marked width text parts = list_all (has_room (columns_of text) width) parts && not (is_turned text)

-- the line of a part
abbrev pub part_line : Bool → List ℕ → Span → List ℕ
part_line marked text s = if marked then mark_line text s else listed_line text s

-- the text in a line of its own, and the line of each part in the order of opening
unfoldable pub parts_lines : ℕ → List ℕ → List Span → List ℕ
parts_lines width text parts = codes "  " ++ text ++ codes "\n" ++ flat_map (part_line (are_marked width text parts) text) parts
