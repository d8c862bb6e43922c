-- Patterns of an amount and its currency's name as they are spelled: `{0}` is the place of the amount, `{1}` that of the name.
use Rattle.std.specs.Prelude.{ℕ, Bool, true, false, nat_eq, List, [], ◌∷◌, drop, length, codes, if◌then◌else◌}
use Rattle.std.specs.Prelude.{Option, Some, None, option_map, option_and_then, is_some, Result, Ok}
use Rattle.std.specs.List.{starts_with}
use Rattle.icu_table_entries.specs.Named.{refused}
use Rattle.icu_table_entries.specs.declared.error.EntryFault.TheVariants.{BadNamePlaces}
use Rattle.icu_table_entries.specs.declared.error.Position.{Position}
use Rattle.icu_table_entries.specs.declared.error.TableError.{TableError}

-- how the place of the amount is spelled
abbrev pub amount_mark : List ℕ
amount_mark = codes "{0}"

-- how the place of the name is spelled
abbrev pub name_mark : List ℕ
name_mark = codes "{1}"

-- what stands before the first such mark of a text, and what stands behind it
unfoldable pub split_at : List ℕ → List ℕ → Option (List ℕ × List ℕ)
split_at mark [] = None
split_at mark (b ∷ bs) =
    if starts_with nat_eq (b ∷ bs) mark then Some ([], drop (length mark) (b ∷ bs))
    else option_map (λ p. (b ∷ p.0, p.1)) (split_at mark bs)

-- two sides of a mark, unless it stands in the second one again
abbrev pub unless_again : List ℕ → List ℕ × List ℕ → Option (List ℕ × List ℕ)
unless_again mark sides = if is_some (split_at mark sides.1) then None else Some sides

-- the two sides of a mark that stands in a text just once
unfoldable pub sides_of : List ℕ → List ℕ → Option (List ℕ × List ℕ)
sides_of mark text = option_and_then (unless_again mark) (split_at mark text)

-- which of the amount and the name comes first, and the texts around them
pub record NamePlaceholders : Type 0 where
  pub amount_first : Bool
  pub before : List ℕ
  pub between : List ℕ
  pub after : List ℕ

-- the places in a text, by the two sides of the amount and where the name's mark is in each of them
abbrev pub placeholders_beside : List ℕ × List ℕ → Option (List ℕ × List ℕ) → Option (List ℕ × List ℕ) → Option NamePlaceholders
placeholders_beside sides None None = None
placeholders_beside sides None (Some name) = Some (record { amount_first = true; before = sides.0; between = name.0; after = name.1 })
placeholders_beside sides (Some name) None = Some (record { amount_first = false; before = name.0; between = name.1; after = sides.1 })
placeholders_beside sides (Some name) (Some again) = None

-- the places in a text that has each of the two marks just once
unfoldable pub placeholders_in : List ℕ → Option NamePlaceholders
placeholders_in text =
    if is_some (sides_of name_mark text) then
    option_and_then (λ sides. placeholders_beside sides (split_at name_mark sides.0) (split_at name_mark sides.1)) (sides_of amount_mark text)
    else None

-- the places, or the error of the entry
abbrev pub placeholders_or_refused : Position → Option NamePlaceholders → Result NamePlaceholders TableError
placeholders_or_refused position None = refused position BadNamePlaces
placeholders_or_refused position (Some placeholders) = Ok placeholders

-- the places in a text
unfoldable pub name_placeholders_of : Position → List ℕ → Result NamePlaceholders TableError
name_placeholders_of position text = placeholders_or_refused position (placeholders_in text)
