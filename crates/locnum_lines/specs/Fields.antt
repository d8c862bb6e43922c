-- The fields of a record, and the number in a field.
use Rattle.std.specs.Prelude.{ℕ, zero, suc, Bool, true, false, ◌&&◌, ◌||◌, not, ◌==◌, List, [], ◌∷◌, take, drop, if◌then◌else◌}
use Rattle.locnum_lines.specs.declared.cutting.FieldState.{FieldState}
use Rattle.locnum_lines.specs.declared.cutting.FieldState.TheVariants.{Front, Plain, Quoted, AfterQuote}
use Rattle.locnum_lines.specs.declared.settings.Delimiter.{Delimiter}
use Rattle.locnum_lines.specs.declared.settings.Delimiter.TheVariants.{Blanks, Byte, Csv}

-- a space, a tab or a line feed, which stands in records where another byte ends lines
abbrev pub is_blank : ℕ → Bool
is_blank b = b == 32 || b == 9 || b == 10

-- one of them, or a carriage return
abbrev pub is_blank_behind : ℕ → Bool
is_blank_behind b = b == 32 || b == 9 || b == 10 || b == 13

-- in a field, outside of quotes
abbrev pub is_plain : FieldState → Bool
is_plain Front = false
is_plain Plain = true
is_plain Quoted = false
is_plain AfterQuote = false

-- between quotes
abbrev pub is_quoted : FieldState → Bool
is_quoted Front = false
is_quoted Plain = false
is_quoted Quoted = true
is_quoted AfterQuote = false

-- whether a byte at this place ends its field: without a delimiter a blank behind a word; in CSV the delimiter unless it
-- is between quotes
abbrev pub ends_field : Delimiter → FieldState → ℕ → Bool
ends_field Blanks state b = is_plain state && is_blank b
ends_field (Byte delimiter) state b = b == delimiter
ends_field (Csv delimiter) state b = not (is_quoted state) && b == delimiter

-- the place behind a byte of a field of CSV: a quote in front of all begins quotes, and a quote between quotes ends them
-- unless another follows; any other stands for itself
abbrev pub csv_state : FieldState → ℕ → FieldState
csv_state Front b = if b == 34 then Quoted else Plain
csv_state Plain b = Plain
csv_state Quoted b = if b == 34 then AfterQuote else Quoted
csv_state AfterQuote b = if b == 34 then Quoted else Plain

-- the place behind a byte that its field goes on with
abbrev pub next_state : Delimiter → FieldState → ℕ → FieldState
next_state Blanks state b = if is_blank b then state else Plain
next_state (Byte delimiter) state b = Plain
next_state (Csv delimiter) state b = csv_state state b

-- how many bytes the first field has, from this place in it on
unfoldable pub field_length : Delimiter → FieldState → List ℕ → ℕ
field_length delimiter state [] = 0
field_length delimiter state (b ∷ bs) =
    if ends_field delimiter state b then 0 else suc (field_length delimiter (next_state delimiter state b) bs)

-- one field of a record, and the byte that ends it, if one does
pub record Field : Type 0 where
  pub text : List ℕ
  pub behind : List ℕ

-- one byte more in front of the first field
abbrev pub onto_field : ℕ → List Field → List Field
onto_field b [] = record { text = b ∷ []; behind = [] } ∷ []
onto_field b (field ∷ fields) = record { text = b ∷ field.text; behind = field.behind } ∷ fields

-- the fields of the rest of a record, from this place in the first of them on
unfoldable pub fields_from : Delimiter → FieldState → List ℕ → List Field
fields_from delimiter state [] = record { text = []; behind = [] } ∷ []
fields_from delimiter state (b ∷ bs) =
    if ends_field delimiter state b then record { text = []; behind = b ∷ [] } ∷ fields_from delimiter Front bs
    else onto_field b (fields_from delimiter (next_state delimiter state b) bs)

-- how many blanks are in front of a text
unfoldable pub blanks_before : List ℕ → ℕ
blanks_before [] = 0
blanks_before (b ∷ bs) = if is_blank b then suc (blanks_before bs) else 0

-- how long a text is without the blanks behind it, by how long the text behind this byte is
abbrev pub with_byte : ℕ → ℕ → ℕ
with_byte b zero = if is_blank_behind b then 0 else 1
with_byte b (suc n) = suc (suc n)

-- how long a text is without the blanks behind it
unfoldable pub content_length : List ℕ → ℕ
content_length [] = 0
content_length (b ∷ bs) = with_byte b (content_length bs)

-- a field: blanks, what is to be a number, and blanks behind it
pub record Cut : Type 0 where
  pub before : List ℕ
  pub number : List ℕ
  pub behind : List ℕ

-- the field with these bytes
abbrev pub cut_field : List ℕ → Cut
cut_field text =
    let rest = drop (blanks_before text) text in
    record { before = take (blanks_before text) text; number = take (content_length rest) rest; behind = drop (content_length rest) rest }
