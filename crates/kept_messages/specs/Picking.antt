-- Which rules the pieces of a message pick by.
use Rattle.std.specs.Prelude.{Bool, true, false, ◌||◌, List, [], ◌∷◌}
use Rattle.icu_message.specs.declared.piece.ChoiceKind.TheVariants.{Plural, SelectOrdinal}
use Rattle.icu_message.specs.declared.piece.Piece.{Piece}
use Rattle.icu_message.specs.declared.piece.Piece.TheVariants.{Choice}

-- a choice by cardinal rules begins
abbrev pub is_plural : Piece → Bool
is_plural (Choice Plural w) = true
is_plural _ = false

-- a choice by ordinal rules begins
abbrev pub is_ordinal : Piece → Bool
is_ordinal (Choice SelectOrdinal w) = true
is_ordinal _ = false

-- a choice by cardinal rules is among the pieces
abbrev pub picks_by_plurals : List Piece → Bool
picks_by_plurals [] = false
picks_by_plurals (p ∷ ps) = is_plural p || picks_by_plurals ps

-- a choice by ordinal rules is among the pieces
abbrev pub picks_by_ordinals : List Piece → Bool
picks_by_ordinals [] = false
picks_by_ordinals (p ∷ ps) = is_ordinal p || picks_by_ordinals ps
