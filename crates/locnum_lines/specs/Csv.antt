-- What a field of CSV contains, and how a text is written as one (RFC 4180).
use Rattle.std.specs.Prelude.{ℕ, ◌-◌, Bool, true, false, ◌||◌, not, ◌==◌, List, [], ◌∷◌, ◌++◌, length, get_or, if◌then◌else◌}
use Rattle.locnum_lines.specs.Fields.{csv_state}
use Rattle.locnum_lines.specs.declared.cutting.FieldState.{FieldState}
use Rattle.locnum_lines.specs.declared.cutting.FieldState.TheVariants.{Front, Plain, Quoted, AfterQuote}

-- how long a field is without a carriage return at its end, which belongs to the end of the line
abbrev pub core_length : List ℕ → ℕ
core_length text = if get_or text (length text - 1) 0 == 13 then length text - 1 else length text

-- whether a field is in quotes
abbrev pub is_in_quotes : List ℕ → Bool
is_in_quotes [] = false
is_in_quotes (b ∷ bs) = b == 34

-- whether a byte at this place is of the content: all are but the quotes around it, and one of each two that stand for one
abbrev pub is_content : FieldState → ℕ → Bool
is_content Front b = not (b == 34)
is_content Plain b = true
is_content Quoted b = not (b == 34)
is_content AfterQuote b = true

-- what this byte gives to the content
abbrev pub kept : FieldState → ℕ → List ℕ
kept state b = if is_content state b then b ∷ [] else []

-- the content of the rest of a field, from this place on
unfoldable pub content_from : FieldState → List ℕ → List ℕ
content_from state [] = []
content_from state (b ∷ bs) = kept state b ++ content_from (csv_state state b) bs

-- a quote, the delimiter, or the byte that ends a line
abbrev pub is_special : ℕ → ℕ → ℕ → Bool
is_special delimiter end b = b == 34 || b == delimiter || b == end

-- whether a text can't stand without quotes: it holds one of them
unfoldable pub wants_quotes : ℕ → ℕ → List ℕ → Bool
wants_quotes delimiter end [] = false
wants_quotes delimiter end (b ∷ bs) = is_special delimiter end b || wants_quotes delimiter end bs

-- a byte between quotes
abbrev pub between_quotes : ℕ → List ℕ
between_quotes b = if b == 34 then 34 ∷ 34 ∷ [] else b ∷ []

-- a text with each of its quotes twice
unfoldable pub doubled : List ℕ → List ℕ
doubled [] = []
doubled (b ∷ bs) = between_quotes b ++ doubled bs

-- a text in quotes
abbrev pub quoted : List ℕ → List ℕ
quoted text = 34 ∷ doubled text ++ 34 ∷ []

-- a text as a field that was in quotes or not: in quotes where it was or where it can't stand without
abbrev pub as_field : ℕ → ℕ → Bool → List ℕ → List ℕ
as_field delimiter end was_quoted text = if was_quoted || wants_quotes delimiter end text then quoted text else text
