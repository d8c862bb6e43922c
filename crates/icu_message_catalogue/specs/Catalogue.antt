-- Which catalogue a text is, or its first fault.
use Rattle.std.specs.Prelude.{ℕ, Bool, false, ◌==◌, List, [], ◌∷◌, Option, Some, None, Result, Ok, Err, bytes_eq, if◌then◌else◌}
use Rattle.json.specs.Json.{Json, Members, no_members, member, document}
use Rattle.json.specs.Find.{as_str, as_object}
use Rattle.icu_message.specs.Reading.{MessageText, pieces_of}
use Rattle.icu_message.specs.declared.error.ParseError.{ParseError}
use Rattle.icu_message.specs.declared.piece.Piece.{Piece}
use Rattle.icu_message_catalogue.specs.Entries.{Entry, with_message}
use Rattle.icu_message_catalogue.specs.Reading.{Fault, not_json, not_an_object, wrong_kind, bad_message, ◌>>=◌, ok_or}

-- a catalogue: the locale that it names, and its messages in the order of their ids' first members
pub record CatalogueData : Type 0 where
  pub locale : Option (List ℕ)
  pub messages : List Entry

-- a key that begins with `@`
abbrev pub is_aside : List ℕ → Bool
is_aside [] = false
is_aside (b ∷ bs) = b == 64

-- the key `@@locale`
abbrev pub is_locale : List ℕ → Bool
is_locale key = bytes_eq key (64 ∷ 64 ∷ 108 ∷ 111 ∷ 99 ∷ 97 ∷ 108 ∷ 101 ∷ [])

-- the text that a member's value is
unfoldable pub text_in : List ℕ → Json → Result (List ℕ) Fault
text_in key value = ok_or (as_str value) (wrong_kind key)

-- a message, if its text is one
abbrev pub message_read : List ℕ → List ℕ → Result (List Piece) ParseError → Result MessageText Fault
message_read key text (Ok pieces) = Ok (record { text = text; pieces = pieces })
message_read key text (Err fault) = Err (bad_message key fault)

-- the message that a member's value is
unfoldable pub message_in : List ℕ → Json → Result MessageText Fault
message_in key value = do
  text ← text_in key value
  message_read key text (pieces_of text)

-- the catalogue with a locale
unfoldable pub with_locale : CatalogueData → List ℕ → Json → Result CatalogueData Fault
with_locale c key value = do
  text ← text_in key value
  Ok (record { locale = Some text; messages = c.messages })

-- the catalogue with a message more
unfoldable pub with_text : CatalogueData → List ℕ → Json → Result CatalogueData Fault
with_text c key value = do
  message ← message_in key value
  Ok (record { locale = c.locale; messages = with_message c.messages key message })

-- The catalogue with a member more: `@@locale` is its locale, and other members whose keys begin with `@` are left aside.
unfoldable pub with_member : CatalogueData → List ℕ → Json → Result CatalogueData Fault
with_member c key value = if is_locale key then with_locale c key value else if is_aside key then Ok c else with_text c key value

-- the catalogue with all members more, in their order
unfoldable pub with_members : CatalogueData → Members → Result CatalogueData Fault
with_members c no_members = Ok c
with_members c (member key value more) = do
  next ← with_member c key value
  with_members next more

-- a catalogue without a locale and messages
abbrev pub no_catalogue : CatalogueData
no_catalogue = record { locale = None; messages = [] }

-- the catalogue that a value is
unfoldable pub catalogue_at : Json → Result CatalogueData Fault
catalogue_at value = do
  members ← ok_or (as_object value) not_an_object
  with_members no_catalogue members

-- the value of a JSON text
unfoldable pub value_of : List ℕ → Result Json Fault
value_of text = ok_or (document text) not_json

-- the catalogue that a text is
unfoldable pub catalogue_of : List ℕ → Result CatalogueData Fault
catalogue_of text = do
  value ← value_of text
  catalogue_at value
