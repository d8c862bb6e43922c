-- The first and the last character of a text.
use Rattle.std.specs.Prelude.{ℕ, Bool, true, false, List, [], ◌∷◌, Option, Some, None}
use Rattle.icu_ranges.specs.declared.edges.Edges.{Edges}

-- the edges of a text that goes on with a character
abbrev pub edges_with : Option Edges → ℕ → Option Edges
edges_with None c = Some (record { first = c; last = c; is_long = false })
edges_with (Some e) c = Some (record { first = e.first; last = c; is_long = true })

-- the edges of a text that goes on with some characters
abbrev pub edges_after : Option Edges → List ℕ → Option Edges
edges_after edges [] = edges
edges_after edges (c ∷ cs) = edges_after (edges_with edges c) cs

-- the last of some characters, the first of which is c
abbrev pub last_of : ℕ → List ℕ → ℕ
last_of c [] = c
last_of c (d ∷ ds) = last_of d ds

-- there is more than one character
abbrev pub is_long : List ℕ → Bool
is_long [] = false
is_long (c ∷ []) = false
is_long (c ∷ d ∷ cs) = true

-- a text with these edges has more than one character
abbrev pub is_long_within : Option Edges → Bool
is_long_within None = false
is_long_within (Some e) = e.is_long
