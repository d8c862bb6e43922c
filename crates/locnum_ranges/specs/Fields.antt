-- The fields of a record, as `locnum_lines` cuts them.
use Rattle.std.specs.Prelude.{ℕ, suc, Bool, true, false, ◌&&◌, not, ◌==◌, List, [], ◌∷◌, Option, Some, None, if◌then◌else◌}
use Rattle.locnum_lines.specs.Fields.{Field, is_blank, onto_field}
use Rattle.locnum_lines.specs.declared.settings.Delimiter.{Delimiter}
use Rattle.locnum_lines.specs.declared.settings.Delimiter.TheVariants.{Blanks, Byte, Csv}
use Rattle.locnum_ranges.specs.declared.cutting.Place.{Place}
use Rattle.locnum_ranges.specs.declared.cutting.Place.TheVariants.{Front, Plain, Quoted, AfterQuote}

-- in a field, outside of quotes
abbrev pub is_plain : Place → Bool
is_plain Front = false
is_plain Plain = true
is_plain Quoted = false
is_plain AfterQuote = false

-- between quotes
abbrev pub is_quoted : Place → Bool
is_quoted Front = false
is_quoted Plain = false
is_quoted Quoted = true
is_quoted AfterQuote = false

-- whether a byte at this place ends its field: without a delimiter a blank behind a word; in CSV the delimiter unless it
-- is between quotes
abbrev pub ends_field : Delimiter → Place → ℕ → Bool
ends_field Blanks place b = is_plain place && is_blank b
ends_field (Byte delimiter) place b = b == delimiter
ends_field (Csv delimiter) place b = not (is_quoted place) && b == delimiter

-- the place behind a byte of a field of CSV: a quote in front of all begins quotes, and a quote between quotes ends them
-- unless another follows; any other stands for itself
abbrev pub csv_place : Place → ℕ → Place
csv_place Front b = if b == 34 then Quoted else Plain
csv_place Plain b = Plain
csv_place Quoted b = if b == 34 then AfterQuote else Quoted
csv_place AfterQuote b = if b == 34 then Quoted else Plain

-- the place behind a byte that its field goes on with
abbrev pub next_place : Delimiter → Place → ℕ → Place
next_place Blanks place b = if is_blank b then place else Plain
next_place (Byte delimiter) place b = Plain
next_place (Csv delimiter) place b = csv_place place b

-- how many bytes the first field has, from this place in it on
unfoldable pub field_length : Delimiter → Place → List ℕ → ℕ
field_length delimiter place [] = 0
field_length delimiter place (b ∷ bs) =
    if ends_field delimiter place b then 0 else suc (field_length delimiter (next_place delimiter place b) bs)

-- the fields of the rest of a record, from this place in the first of them on, each with the byte that ends it, if one does
unfoldable pub fields_from : Delimiter → Place → List ℕ → List Field
fields_from delimiter place [] = record { text = []; behind = [] } ∷ []
fields_from delimiter place (b ∷ bs) =
    if ends_field delimiter place b then record { text = []; behind = b ∷ [] } ∷ fields_from delimiter Front bs
    else onto_field b (fields_from delimiter (next_place delimiter place b) bs)

-- the fields of a record
abbrev pub fields_in : Delimiter → List ℕ → List Field
fields_in delimiter line = fields_from delimiter Front line

-- those of what is left of a record behind some fields, if anything is
abbrev pub fields_of_rest : Delimiter → Option (List ℕ) → List Field
fields_of_rest delimiter None = []
fields_of_rest delimiter (Some bytes) = fields_in delimiter bytes
