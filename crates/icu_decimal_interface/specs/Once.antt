-- That a number stands in what is written around it.
use Rattle.std.specs.Prelude.{◌≡◌, ℕ, List, ◌++◌}
use Rattle.writeable.specs.Events.{Event, characters}

-- What is written of some events is their characters between a before and an after, which are the same for all events.
pub record StandsOnce (written : List Event → List Event) : Type 0 where
  pub before : List ℕ
  pub after : List ℕ
  pub stands : (es : List Event) → characters (written es) ≡ before ++ (characters es ++ after)
