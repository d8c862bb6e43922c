-- What the text of a message asks for: its names with their kinds, and the places with a form of their own.
use Rattle.std.specs.Prelude.{◌≡◌, ℕ, ◌⊎◌, List, Option, Some, None, slice_get}
use Rattle.icu_message.specs.declared.signature.ArgumentKind.{ArgumentKind}
use Rattle.icu_message.specs.declared.signature.ArgumentKind.TheVariants as kind
use Rattle.icu_message.specs.declared.signature.NamedKind.{NamedKind}
use Rattle.kept_messages.specs.declared.places.Place.{Place}
use Rattle.talmuiga_c.specs.Endings.{done, out_of_memory}
use Rattle.talmuiga_c.specs.MessageStatuses.{no_such_place, no_word, word_at}
use Rattle.talmuiga_c.specs.declared.message_places.NamedAt.{NamedAt}
use Rattle.talmuiga_c.specs.declared.message_places.PlaceAt.{PlaceAt}

-- where a place stands
abbrev pub place_at : Place → PlaceAt
place_at p = record { name = word_at p.name; skeleton = word_at p.skeleton }

-- there is none
abbrev pub no_place : PlaceAt
no_place = record { name = no_word; skeleton = no_word }

-- the place is set, or there is none
abbrev pub IsPlaceAt : Option Place → PlaceAt → ℕ → Type 0
IsPlaceAt (Some p) place status = (place ≡ place_at p) × (status ≡ done)
IsPlaceAt None place status = (place ≡ no_place) × (status ≡ no_such_place)

-- what is asked of an argument
abbrev pub kind_number : ArgumentKind → ℕ
kind_number kind.Any = 0
kind_number kind.Number = 1
kind_number kind.Text = 2

-- where a name stands first, and its kind
abbrev pub named_at : NamedKind → NamedAt
named_at n = record { name = word_at n.name; kind = kind_number n.kind }

-- there is none
abbrev pub no_named : NamedAt
no_named = record { name = no_word; kind = 0 }

-- the name at an index, from 0 on
abbrev pub name_from : ℕ → List NamedKind → Option NamedKind
name_from index names = slice_get names index

-- the name is set, or there is none; out of memory may come in place of both
abbrev pub IsNameFound : Option NamedKind → NamedAt → ℕ → Type 0
IsNameFound (Some n) named status = (named ≡ named_at n) × (status ≡ done)
IsNameFound None named status = (named ≡ no_named) × (status ≡ no_such_place)

abbrev pub IsNameAt : Option NamedKind → NamedAt → ℕ → Type 0
IsNameAt found named status = ((named ≡ no_named) × (status ≡ out_of_memory)) ⊎ IsNameFound found named status
