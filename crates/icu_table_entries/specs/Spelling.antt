-- Patterns as they are spelled: `{0}` is the placeholder.
use Rattle.std.specs.Prelude.{ℕ, List, [], ◌∷◌, ◌++◌, Option, Some, None, option_map, is_some, Result, Ok, codes, drop, length, if◌then◌else◌}
use Rattle.std.specs.Prelude.{nat_eq}
use Rattle.std.specs.List.{starts_with}
use Rattle.icu_pattern.specs.Patterns.{PatternText}
use Rattle.icu_table_entries.specs.Named.{refused}
use Rattle.icu_table_entries.specs.Reading.{◌>>=◌}
use Rattle.icu_table_entries.specs.declared.error.EntryFault.TheVariants.{BadPlace}
use Rattle.icu_table_entries.specs.declared.error.Position.{Position}
use Rattle.icu_table_entries.specs.declared.error.TableError.{TableError}

-- what stands before the first `{0}` of a text, and what stands after it
unfoldable pub split_at_placeholder : List ℕ → Option (List ℕ × List ℕ)
split_at_placeholder [] = None
split_at_placeholder (b ∷ bs) =
    if starts_with nat_eq (b ∷ bs) (codes "{0}") then Some ([], drop 3 (b ∷ bs))
    else option_map (λ p. (b ∷ p.0, p.1)) (split_at_placeholder bs)

-- The pattern of a text that is split so: the placeholder stands between the two halves, which are the literal. A text
-- without `{0}` is a literal alone. The second half may have no other `{0}`.
abbrev pub pattern_split : Position → List ℕ → Option (List ℕ × List ℕ) → Result PatternText TableError
pattern_split position text None = Ok (record { placeholder = None; literal = text })
pattern_split position text (Some p) =
    if is_some (split_at_placeholder p.1) then refused position BadPlace
    else Ok (record { placeholder = Some (length p.0); literal = p.0 ++ p.1 })

-- the pattern of a text
unfoldable pub pattern_of : Position → List ℕ → Result PatternText TableError
pattern_of position text = pattern_split position text (split_at_placeholder text)

-- the pattern of a text that may be absent
unfoldable pub optional_pattern_of : Position → Option (List ℕ) → Result (Option PatternText) TableError
optional_pattern_of position None = Ok None
optional_pattern_of position (Some text) = do
  pattern ← pattern_of position text
  Ok (Some pattern)
