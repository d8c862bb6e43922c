-- Events inside a part.
use Rattle.std.specs.Prelude.{ℕ, List, [], ◌∷◌, ◌++◌, codes}
use Rattle.writeable.specs.Events.{Event}
use Rattle.writeable.specs.Events.Event.{Open, Close}

-- the events with a part of this category and value around them
abbrev pub in_part : List ℕ → List ℕ → List Event → List Event
in_part category value es = Open category value ∷ (es ++ Close ∷ [])

-- the events with a part of a decimal around them
abbrev pub in_decimal_part : List ℕ → List Event → List Event
in_decimal_part value es = in_part (codes "decimal") value es
