-- Columns by the names of the header.
use Rattle.std.specs.Prelude.{ℕ, suc, nat_eq, List, [], ◌∷◌, Option, Some, None, if◌then◌else◌}
use Rattle.std.specs.Cmp.Lexicographic.{pointwise}
use Rattle.locnum_lines.specs.declared.settings.FieldRange.{FieldRange}

-- the number of the first column of this name, by that of the first of the columns
unfoldable pub column_from : ℕ → List ℕ → List (List ℕ) → Option ℕ
column_from index wanted [] = None
column_from index wanted (name ∷ names) = if pointwise nat_eq name wanted then Some index else column_from (suc index) wanted names

-- a column, if there is one, in front of fields
abbrev pub onto_columns : Option ℕ → List FieldRange → List FieldRange
onto_columns None fields = fields
onto_columns (Some index) fields = record { first = index; last = index } ∷ fields

-- the columns of these names
unfoldable pub columns_named : List (List ℕ) → List (List ℕ) → List FieldRange
columns_named header [] = []
columns_named header (wanted ∷ others) = onto_columns (column_from 1 wanted header) (columns_named header others)

-- a name that is no column's, or else one of the others
abbrev pub or_missing : Option ℕ → List ℕ → Option (List ℕ) → Option (List ℕ)
or_missing None wanted others = Some wanted
or_missing (Some index) wanted others = others

-- the first of these names that is no column's
unfoldable pub missing_name : List (List ℕ) → List (List ℕ) → Option (List ℕ)
missing_name header [] = None
missing_name header (wanted ∷ others) = or_missing (column_from 1 wanted header) wanted (missing_name header others)
