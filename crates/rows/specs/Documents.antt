-- Which document a row's name finds.
use Rattle.std.specs.Prelude.{ℕ, List, [], ◌∷◌, Option, Some, None, nat_eq, if◌then◌else◌}
use Rattle.std.specs.Cmp.Lexicographic.{pointwise}
use Rattle.std.specs.Str.{is_utf8}
use Rattle.std.specs.String.{string_bytes}
use Rattle.rows.specs.declared.documents.Document.{Document}

-- the bytes of the first document of this name
unfoldable pub bytes_among : List ℕ → List Document → Option (List ℕ)
bytes_among name [] = None
bytes_among name (document ∷ documents) =
    if pointwise nat_eq (string_bytes document.name) name then Some document.bytes.items else bytes_among name documents

-- bytes that are a text
unfoldable pub if_text : Option (List ℕ) → Option (List ℕ)
if_text None = None
if_text (Some bytes) = if is_utf8 bytes then Some bytes else None

-- the text of the first document of this name, if its bytes are UTF-8
abbrev pub text_among : List ℕ → List Document → Option (List ℕ)
text_among name documents = if_text (bytes_among name documents)
