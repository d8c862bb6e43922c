-- The places of a message that have a form of their own.
use Rattle.std.specs.Prelude.{ℕ, ◌==◌, ◌-◌, List, [], ◌∷◌, Option, Some, None, if◌then◌else◌}
use Rattle.icu_message.specs.declared.piece.Piece.{Piece}
use Rattle.icu_message.specs.declared.piece.Piece.TheVariants.{Formatted}
use Rattle.kept_messages.specs.declared.places.Place.{Place}

-- the place that a piece is, if it has a form of its own
abbrev pub place_of : Piece → Option Place
place_of (Formatted w k) = Some (record { name = w; skeleton = k })
place_of _ = None

-- the place at an index, by that of the first piece and those of the pieces behind it
abbrev pub first_or : ℕ → Option Place → (ℕ → Option Place) → Option Place
first_or i None later = later i
first_or i (Some place) later = if i == 0 then Some place else later (i - 1)

-- the place at an index among those of pieces, from 0 on
abbrev pub place_from : ℕ → List Piece → Option Place
place_from i [] = None
place_from i (p ∷ ps) = first_or i (place_of p) (λ j. place_from j ps)
