-- Which fields are asked for: `N`, `N-`, `N-M`, `-M` and `-` between commas.
use Rattle.std.specs.Prelude.{ℕ, ◌-◌, ◌^◌, nat_le, nat_lt, List, [], ◌∷◌, Option, Some, None, if◌then◌else◌}
use Rattle.locnum_lines.specs.declared.settings.FieldRange.{FieldRange}
use Rattle.locnum_options.specs.Texts.{◌>>=◌, cut_at, number_named, parts_of}

-- a number from 1 on, as that of a field
unfoldable pub positive_number_named : List ℕ → Option ℕ
positive_number_named text = do
  number ← number_named text
  if nat_lt 0 number then Some number else None

-- an end of a range; this one where it is missing
unfoldable pub end_named : ℕ → List ℕ → Option ℕ
end_named missing [] = Some missing
end_named missing (byte ∷ bytes) = positive_number_named (byte ∷ bytes)

-- the range between two ends
unfoldable pub ends_named : List ℕ → List ℕ → Option FieldRange
ends_named first last = do
  first ← end_named 1 first
  last ← end_named (2 ^ 64 - 1) last
  if nat_le first last then Some (record { first = first; last = last }) else None

-- the range of a text that is cut at its first hyphen, if it has one
abbrev pub range_at_hyphen : List ℕ → Option (List ℕ × List ℕ) → Option FieldRange
range_at_hyphen text None = do
  number ← positive_number_named text
  Some (record { first = number; last = number })
range_at_hyphen text (Some (first, last)) = ends_named first last

-- the range of a text
unfoldable pub range_named : List ℕ → Option FieldRange
range_named text = range_at_hyphen text (cut_at 45 text)

-- the ranges of texts
unfoldable pub ranges_named : List (List ℕ) → Option (List FieldRange)
ranges_named [] = Some []
ranges_named (part ∷ parts) = do
  range ← range_named part
  ranges ← ranges_named parts
  Some (range ∷ ranges)

-- the ranges of a text that is cut at its commas
unfoldable pub fields_named : List ℕ → Option (List FieldRange)
fields_named text = ranges_named (parts_of 44 text)
