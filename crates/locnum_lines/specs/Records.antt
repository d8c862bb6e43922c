-- The records of an input: its lines, or of CSV as many lines as their quotes span.
use Rattle.std.specs.Prelude.{◌≡◌, ℕ, suc, ◌+◌, Bool, true, false, ◌&&◌, not, ◌==◌, List, [], ◌∷◌, Option, Some, None}
use Rattle.std.specs.Prelude.{if◌then◌else◌}
use Rattle.std.specs.List.{sum_by}
use Rattle.decimal_lines.specs.Lines.{onto_first}
use Rattle.locnum_lines.specs.Fields.{csv_state, ends_field, is_quoted}
use Rattle.locnum_lines.specs.declared.cutting.FieldState.{FieldState}
use Rattle.locnum_lines.specs.declared.cutting.FieldState.TheVariants.{Front}
use Rattle.locnum_lines.specs.declared.settings.Delimiter.{Delimiter}
use Rattle.locnum_lines.specs.declared.settings.Delimiter.TheVariants.{Blanks, Byte, Csv}

-- the place behind a byte of a record; only CSV has quotes, and so places that matter to where a record ends
abbrev pub state_after : Delimiter → FieldState → ℕ → FieldState
state_after Blanks state b = state
state_after (Byte delimiter) state b = state
state_after (Csv delimiter) state b = if ends_field (Csv delimiter) state b then Front else csv_state state b

-- the place behind bytes of a record
unfoldable pub state_behind : Delimiter → FieldState → List ℕ → FieldState
state_behind delimiter state [] = state
state_behind delimiter state (b ∷ bs) = state_behind delimiter (state_after delimiter state b) bs

-- whether a byte at this place ends its record
abbrev pub ends_record : ℕ → FieldState → ℕ → Bool
ends_record end state b = b == end && not (is_quoted state)

-- the records of the rest of an input, from this place in the first of them on, each without the byte that ends it; the last
-- one, if it has a byte, may end without
unfoldable pub records_from : Delimiter → ℕ → FieldState → List ℕ → List (List ℕ)
records_from delimiter end state [] = []
records_from delimiter end state (b ∷ bs) =
    if ends_record end state b then [] ∷ records_from delimiter end Front bs
    else onto_first b (records_from delimiter end (state_after delimiter state b) bs)

-- the records of an input
abbrev pub records_of : Delimiter → ℕ → List ℕ → List (List ℕ)
records_of delimiter end input = records_from delimiter end Front input

-- no byte that ends a line in it
abbrev pub IsPartLine : ℕ → List ℕ → Type 0
IsPartLine end [] = Unit {0}
IsPartLine end (b ∷ bs) = ((b == end) ≡ false) × IsPartLine end bs

-- from this place on no byte ends the record
abbrev pub IsPart : Delimiter → ℕ → FieldState → List ℕ → Type 0
IsPart delimiter end state [] = Unit {0}
IsPart delimiter end state (b ∷ bs) = (ends_record end state b ≡ false) × IsPart delimiter end (state_after delimiter state b) bs

-- whether a record's last field has quotes that don't end
abbrev pub is_open : Delimiter → List ℕ → Bool
is_open delimiter record' = is_quoted (state_behind delimiter Front record')

-- what stands in front of the last byte that ends a field, and that byte, by whether this byte ends one and by those behind it
abbrev pub onto_front : Bool → ℕ → Option (List ℕ × ℕ) → Option (List ℕ × ℕ)
onto_front is_ended b (Some (front, last)) = Some (b ∷ front, last)
onto_front true b None = Some ([], b)
onto_front false b None = None

-- what stands in front of the last byte of a record that ends a field, and that byte; none where the record is one field
unfoldable pub in_front : Delimiter → FieldState → List ℕ → Option (List ℕ × ℕ)
in_front delimiter state [] = None
in_front delimiter state (b ∷ bs) = onto_front (ends_field delimiter state b) b (in_front delimiter (state_after delimiter state b) bs)

-- the place of the last byte that ends a field, behind the byte at this place, which ends one or not
abbrev pub found_after : Bool → Option ℕ → ℕ → Option ℕ
found_after is_ended found index = if is_ended then Some index else found

-- how many lines a byte ends
abbrev pub line_end : ℕ → ℕ → ℕ
line_end end b = if b == end then 1 else 0

-- how many lines bytes end
abbrev pub ends_in : ℕ → List ℕ → ℕ
ends_in end bytes = sum_by (line_end end) bytes

-- how many lines a record is
abbrev pub lines_in : ℕ → List ℕ → ℕ
lines_in end record' = suc (ends_in end record')

-- the line behind a byte of this line
abbrev pub line_after : ℕ → ℕ → ℕ → ℕ
line_after end line b = line + line_end end b

-- the line in which a field begins: this one, unless a byte ended the field before it
abbrev pub begun_after : Bool → ℕ → ℕ → ℕ
begun_after is_ended begun line = if is_ended then line else begun

-- the line in which a record's last field begins, by the line in which the field at this place begins, and the line of this place
unfoldable pub last_begun : Delimiter → ℕ → FieldState → ℕ → ℕ → List ℕ → ℕ
last_begun delimiter end state begun line [] = begun
last_begun delimiter end state begun line (b ∷ bs) =
    last_begun delimiter end (state_after delimiter state b)
    (begun_after (ends_field delimiter state b) begun (line_after end line b)) (line_after end line b) bs
