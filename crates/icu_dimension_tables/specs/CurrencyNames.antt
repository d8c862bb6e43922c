-- An amount with the name of its currency, of the places of both and the names, by plural category.
use Rattle.std.specs.Prelude.{ℕ, List, Option, Some, None, slice_index_or}
use Rattle.icu_dimension.specs.Names.{NameText}
use Rattle.icu_dimension_tables.specs.NamePlaceholders.{NamePlaceholders}
use Rattle.icu_dimension_data.specs.ByCategory.{elements_in}
use Rattle.icu_plurals.specs.Elements.{Elements, slots}

-- a name in its place
abbrev pub name_in : NamePlaceholders → List ℕ → NameText
name_in p name = record { number_first = p.amount_first; before = p.before; between = p.between; after = p.after; name = name }

-- What a slot has: its places and its name, where it has either. For the one that it hasn't the one for all other numbers stands.
unfoldable pub slot_named : NamePlaceholders → List ℕ → Option NamePlaceholders → Option (List ℕ) → Option NameText
slot_named p name None None = None
slot_named p name None (Some own) = Some (name_in p own)
slot_named p name (Some own) None = Some (name_in own name)
slot_named p name (Some placeholders) (Some own) = Some (name_in placeholders own)

-- the same of the slot of this number
abbrev pub named_at : Elements NamePlaceholders → Elements (List ℕ) → ℕ → Option NameText
named_at p n slot = slot_named p.other n.other (slice_index_or (slots p) slot None) (slice_index_or (slots n) slot None)

-- the names in their places, slot by slot
abbrev pub names_with_placeholders : Elements NamePlaceholders → Elements (List ℕ) → Elements NameText
names_with_placeholders p n = elements_in (named_at p n) (name_in p.other n.other)

-- the same of an entry's places and of names that are there; none where the entry has no places
abbrev pub names_found : Option (Option (Elements NamePlaceholders)) → Option (Elements (List ℕ)) → Option (Elements NameText)
names_found None names = None
names_found (Some None) names = None
names_found (Some (Some placeholders)) None = None
names_found (Some (Some placeholders)) (Some names) = Some (names_with_placeholders placeholders names)
