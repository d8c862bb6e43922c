-- The columns whose names are nearest to one that no column has.
use Rattle.std.specs.Prelude.{ℕ, Bool, nat_eq, nat_lt, List, [], ◌∷◌, length, take, if◌then◌else◌}
use Rattle.strsim.specs.Edits.{levenshtein_row}

-- how many bytes have to change until a name is another one
abbrev pub distance : List ℕ → List ℕ → ℕ
distance name wanted = levenshtein_row nat_eq name wanted (length wanted)

-- whether a name is nearer to the wanted one than another name is
abbrev pub is_nearer : List ℕ → List ℕ → List ℕ → Bool
is_nearer wanted name other = nat_lt (distance name wanted) (distance other wanted)

-- names in order with one more, behind all that are as near as it is
unfoldable pub with_name : List ℕ → List ℕ → List (List ℕ) → List (List ℕ)
with_name wanted name [] = name ∷ []
with_name wanted name (other ∷ others) =
    if is_nearer wanted name other then name ∷ other ∷ others else other ∷ with_name wanted name others

-- the nearest five of names in order and of others
unfoldable pub nearest_of : List ℕ → List (List ℕ) → List (List ℕ) → List (List ℕ)
nearest_of wanted near [] = near
nearest_of wanted near (name ∷ names) = nearest_of wanted (take 5 (with_name wanted name near)) names

-- the nearest five names of a header, the nearest first, and of equally near ones the first
abbrev pub nearest : List ℕ → List (List ℕ) → List (List ℕ)
nearest wanted header = nearest_of wanted [] header
