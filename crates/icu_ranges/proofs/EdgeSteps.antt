-- The edges of a text are its first and its last character.
use Rattle.std.proofs.Common.{◌≡◌, ℕ, List, [], ◌∷◌, Bool, true, false, refl, ap, ◌∙◌}
use Rattle.std.specs.Prelude.{Some, None}
use Rattle.icu_ranges.specs.Edges.{edges_after, is_long, is_long_within, last_of}
use Rattle.icu_ranges.specs.Joined.{has_digits, is_bare}
use Rattle.icu_ranges.specs.Separator.{begins_with_ink, ends_with_ink, has_ink_first, has_ink_last}

-- more than one character, behind a first one
long_behind : Bool → List ℕ → Bool
long_behind long [] = long
long_behind long (c ∷ cs) = true

stays_long : (cs : List ℕ) → long_behind true cs ≡ true
unfolding long_behind
stays_long [] = refl
stays_long (c ∷ cs) = refl

-- behind a first character
edges_behind : (f l : ℕ) (long : Bool) (cs : List ℕ) → edges_after (Some (record { first = f; last = l; is_long = long })) cs
    ≡ Some (record { first = f; last = last_of l cs; is_long = long_behind long cs })
unfolding long_behind
edges_behind f l long [] = refl
edges_behind f l long (c ∷ cs) =
    edges_behind f c true cs ∙ ap (λ b. Some (record { first = f; last = last_of c cs; is_long = b })) (stays_long cs)

-- a text is bare by its edges
pub bare_by_edges : (cs : List ℕ) → has_digits (edges_after None cs) ≡ is_bare cs
bare_by_edges [] = refl
bare_by_edges (c ∷ cs) = ap has_digits (edges_behind c c false cs)

-- so it begins with ink
pub begins_by_edges : (cs : List ℕ) → has_ink_first (edges_after None cs) ≡ begins_with_ink cs
begins_by_edges [] = refl
begins_by_edges (c ∷ cs) = ap has_ink_first (edges_behind c c false cs)

-- and ends with it
pub ends_by_edges : (cs : List ℕ) → has_ink_last (edges_after None cs) ≡ ends_with_ink cs
ends_by_edges [] = refl
ends_by_edges (c ∷ cs) = ap has_ink_last (edges_behind c c false cs)

-- a text has more than one character by its edges
pub long_by_edges : (cs : List ℕ) → is_long_within (edges_after None cs) ≡ is_long cs
unfolding long_behind
long_by_edges [] = refl
long_by_edges (c ∷ []) = refl
long_by_edges (c ∷ d ∷ cs) = ap is_long_within (edges_behind c d true cs) ∙ stays_long cs
