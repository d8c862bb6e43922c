-- What a call does that shows one number inside another.
use Rattle.std.specs.Prelude.{List}
use Rattle.writeable.specs.Events.{Event}
use Rattle.icu_plurals.specs.Operands.{Operands}
use Rattle.icu_decimal_interface.specs.Shown.{Shown, operands_shown}

-- two shown numbers, the second inside the first
pub record ShownPair : Type 0 where
  pub first : Shown
  pub second : Shown

-- the one and the other are such numbers
abbrev pub BothSuch : (Shown → Type 0) → (Shown → Type 0) → ShownPair → Type 0
BothSuch First Second p = First p.first × Second p.second

-- what is written of both in a frame, which is a function of their operands and their events
abbrev pub pair_events : (Operands → List Event → Operands → List Event → List Event) → ShownPair → List Event
pair_events framed p = framed (operands_shown p.first) p.first.events (operands_shown p.second) p.second.events
