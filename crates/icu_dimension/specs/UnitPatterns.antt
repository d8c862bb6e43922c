-- What the pattern of a unit writes around a number: its letters and symbols in the part of a unit, the white space at the ends
-- of its literals in no part. White space is Unicode's `White_Space`, as in Rust's `str::trim`.
use Rattle.std.specs.Prelude.{◌≡◌, ℕ, List, [], ◌∷◌, ◌++◌, Option, None, Some, map, length, take, drop, chars, codes, if◌then◌else◌}
use Rattle.std.specs.Char.{is_whitespace}
use Rattle.std.specs.Str.{skip_leading_whitespace, drop_trailing_whitespace}
use Rattle.writeable.specs.Events.{Event, characters}
use Rattle.writeable.specs.Events.Event.{Char, Open, Close}
use Rattle.icu_pattern.specs.Patterns.{PatternText, interpolated}

-- the white space at the start of some characters
abbrev pub leading_whitespace : List ℕ → List ℕ
leading_whitespace [] = []
leading_whitespace (c ∷ cs) = if is_whitespace c then c ∷ leading_whitespace cs else []

-- the white space at their end
abbrev pub trailing_whitespace : List ℕ → List ℕ
trailing_whitespace cs = drop (length (drop_trailing_whitespace cs)) cs

-- characters in the part of a unit; where there are none, no part
abbrev pub in_unit : List ℕ → List Event
in_unit [] = []
in_unit (c ∷ cs) = Open (codes "dimension") (codes "unit") ∷ (map Char (c ∷ cs) ++ Close ∷ [])

-- characters after which no white space is left out at the start: what stands before the white space at their end in the
-- part of a unit, and that white space
abbrev pub unit_then_whitespace : List ℕ → List Event
unit_then_whitespace cs = in_unit (drop_trailing_whitespace cs) ++ map Char (trailing_whitespace cs)

-- the characters of a literal: the white space at the start, what stands between in the part of a unit, the white space at
-- the end
abbrev pub unit_literal : List ℕ → List Event
unit_literal cs = map Char (leading_whitespace cs) ++ unit_then_whitespace (skip_leading_whitespace cs)

-- the events of a literal with the events es inserted after its first k bytes; without an offset those of the literal alone
abbrev pub unit_around : List ℕ → Option ℕ → List Event → List Event
unit_around literal None es = unit_literal (chars literal)
unit_around literal (Some k) es = unit_literal (chars (take k literal)) ++ (es ++ unit_literal (chars (drop k literal)))

-- the events of a unit's pattern with those of a number in its place; without a place those of its literal, and no number
abbrev pub unit_interpolated : PatternText → List Event → List Event
unit_interpolated p es = unit_around p.literal p.placeholder es

-- the characters are those of the pattern with the number in its place
abbrev pub UnitKeepsCharacters : Type 0
UnitKeepsCharacters = (p : PatternText) (es : List Event) → characters (unit_interpolated p es) ≡ characters (interpolated p es)
