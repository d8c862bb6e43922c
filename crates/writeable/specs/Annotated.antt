-- What a `PartsText` holds, and its limit.
use Rattle.std.specs.Prelude.{◌≡◌, ◌≤◌, ℕ, List, length, Option, Some, IfSome}
use Rattle.writeable.specs.Events.{Event}

-- what a `PartsText` holds: its events, how often it has failed, how many events it may hold, and how many of its failures
-- were growths that failed
pub record Annotated : Type 0 where
  pub events : List Event
  pub failures : ℕ
  pub limit : Option ℕ
  pub refusals : ℕ

-- as many events are held as the limit allows
abbrev pub IsFull : Annotated → Type 0
IsFull s = s.limit ≡ Some (length s.events)

-- no more events are held than the limit allows
abbrev pub IsWithinLimit : Annotated → Type 0
IsWithinLimit s = IfSome s.limit (λ n. length s.events ≤ n)
