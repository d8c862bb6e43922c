-- Messages by their ids.
use Rattle.std.specs.Prelude.{ℕ, List, [], ◌∷◌, map, Option, Some, None, bytes_eq, string_bytes, if◌then◌else◌}
use Rattle.std.specs.declared.string.String.{String}
use Rattle.icu_message.specs.Reading.{MessageText}

-- an id with its message
pub record Entry : Type 0 where
  pub id : List ℕ
  pub message : MessageText

-- the entries, each id by its bytes
abbrev pub entries_view : {A : Type 0} → List (String A × MessageText) → List Entry
entries_view es = map (λ e. record { id = string_bytes e.0; message = e.1 }) es

-- A message more under an id: an id that is there keeps its place and has the new message, and another id comes last.
abbrev pub with_message : List Entry → List ℕ → MessageText → List Entry
with_message [] id m = record { id = id; message = m } ∷ []
with_message (e ∷ es) id m = if bytes_eq id e.id then record { id = e.id; message = m } ∷ es else e ∷ with_message es id m

-- the message of an id
abbrev pub message_of : List ℕ → List Entry → Option MessageText
message_of id [] = None
message_of id (e ∷ es) = if bytes_eq id e.id then Some e.message else message_of id es

-- the ids, in their order
abbrev pub ids_of : List Entry → List (List ℕ)
ids_of es = map (λ e. e.id) es
