-- The lines of notes.
use Rattle.std.specs.Prelude.{ℕ, ◌+◌, ◌-◌, List, [], ◌∷◌, ◌++◌, Option, Some, None, codes, decimal}
use Rattle.std.specs.List.{flat_map, slice_get}
use Rattle.decimal_lines.specs.declared.single_text.TextError.{TextError}
use Rattle.decimal_lines.specs.declared.single_text.TextError.TheVariants.{NotDecimal, TooManyDigits, Overflow, OutOfMemory}
use Rattle.number_forms.specs.Reported.{reported}
use Rattle.locnum_lines.specs.Nearest.{nearest}
use Rattle.locnum_lines.specs.declared.settings.Source.{Source}
use Rattle.locnum_lines.specs.declared.settings.Source.TheVariants.{Lines, Word}

-- why a text is rejected
abbrev pub reason : TextError → List ℕ
reason NotDecimal = codes "not a decimal"
reason TooManyDigits = codes "too many digits"
reason Overflow = codes "overflow"
reason OutOfMemory = codes "out of memory"

-- the name of a column, if it has one
abbrev pub column_text : Option (List ℕ) → List ℕ
column_text None = []
column_text (Some []) = []
column_text (Some (b ∷ bs)) = codes " (" ++ reported (b ∷ bs) ++ codes ")"

-- where a field of this number stands in a record behind that many lines: the line on which the record begins, the number, and
-- the name of the column; or which argument it is
unfoldable pub position_text : Source → ℕ → List (List ℕ) → ℕ → List ℕ
position_text Lines lines names index =
    codes "line " ++ decimal (lines + 1) ++ codes ", field " ++ decimal index ++ column_text (slice_get names (index - 1))
position_text (Word number) lines names index = codes "word " ++ decimal number

-- the line that says why a text at this place is rejected
unfoldable pub note : List ℕ → List ℕ → TextError → List ℕ
note position text error = codes "locnum: " ++ position ++ codes ": " ++ reported text ++ codes ": " ++ reason error ++ 10 ∷ []

-- names behind another one
abbrev pub others_text : List (List ℕ) → List ℕ
others_text names = flat_map (λ name. codes ", " ++ reported name) names

-- names with commas between them
abbrev pub names_text : List (List ℕ) → List ℕ
names_text [] = []
names_text (name ∷ names) = reported name ++ others_text names

-- the line that reports a name that is no column's, and the five columns with the nearest names
unfoldable pub missing_note : List (List ℕ) → List ℕ → List ℕ
missing_note header name =
    codes "locnum: no field " ++ reported name ++ codes "; the header has " ++ names_text (nearest name header) ++ 10 ∷ []

-- the line that says where quotes begin that don't end
unfoldable pub unended_note : ℕ → List ℕ
unended_note line = codes "locnum: line " ++ decimal line ++ codes ": a quote without an end\n"
