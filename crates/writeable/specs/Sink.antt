-- What a call does to a sink, which holds events and counts its failures.
use Rattle.std.specs.Prelude.{◌≡◌, ℕ, ◌+◌, ◌-◌, ◌^◌, ◌<◌, ◌⊎◌, List, ◌++◌, length, min, Option, Some, Result, MatchResult}
use Rattle.std.specs.Prelude.{OnOk, OnErr, IsOk}
use Rattle.std.specs.Borrow.{MutBor}
use Rattle.std.specs.Fmt.{IsFlush, HasWrittenStyled}
use Rattle.std.specs.declared.fmt.Formatter.{Formatter}
use Rattle.writeable.specs.declared.sink.WriteFault.{WriteFault}
use Rattle.writeable.specs.Events.{Event, text_of}

-- a count of failures after one more: it stays at its last value
abbrev pub one_more_failure : ℕ → ℕ
one_more_failure n = min (n + 1) (2 ^ 64 - 1)

-- new is old followed by a beginning of es
pub record AddsBeginning (old new es : List Event) : Type 0 where
  pub written : List Event
  pub unwritten : List Event
  pub added : new ≡ old ++ written
  pub rest : written ++ unwritten ≡ es

-- the sink t is s with all of es appended, and no failure more is counted
pub record WritesAll {S : Type 0} (events : S → List Event) (failures : S → ℕ) (s : S) (es : List Event) (t : S) : Type 0 where
  pub held : events t ≡ events s ++ es
  pub same_failures : failures t ≡ failures s

-- the sink t is s after a failure while es was written: a beginning of es is appended, and one failure more is counted
pub record WritesBeginning {S : Type 0} (events : S → List Event) (failures : S → ℕ) (s : S) (es : List Event) (t : S) : Type 0 where
  pub held : AddsBeginning (events s) (events t) es
  pub one_more : failures t ≡ one_more_failure (failures s)

-- what a call that is to write es does, by its answer
abbrev pub Writes : {S : Type 0} → (S → List Event) → (S → ℕ) → S → Result (Unit {0}) WriteFault → List Event → S → Type 0
Writes events failures s r es t = MatchResult r (λ _. WritesAll events failures s es t) (λ _. WritesBeginning events failures s es t)

-- the sink t holds as many events as its limit allows, and not all of es, which was to be written to s
pub record EndsFull {S : Type 0} (events : S → List Event) (limit : S → Option ℕ) (s : S) (es : List Event) (t : S) : Type 0 where
  pub full : limit t ≡ Some (length (events t))
  pub unwritten : length (events t) < length (events s) + length es

-- A call that is to write es keeps the limit of the sink. Where it fails, it failed for another reason than the limit,
-- and that is counted; or the sink is full with something of es left.
pub record KeepsLimit {S : Type 0} (events : S → List Event) (limit : S → Option ℕ) (refusals : S → ℕ) (s : S) (r : Result (Unit {0}) WriteFault)
    (es : List Event) (t : S) : Type 0 where
  pub same_limit : limit t ≡ limit s
  pub same_refusals : OnOk r (refusals t ≡ refusals s)
  pub fault : OnErr r ((refusals t ≡ one_more_failure (refusals s)) ⊎ ((refusals t ≡ refusals s) × EndsFull events limit s es t))

-- `Writes` and `KeepsLimit` of a borrowed sink: the borrow is the same before and after
pub record LentWrites {S : Type 0} (events : S → List Event) (failures : S → ℕ) (limit : S → Option ℕ) (refusals : S → ℕ) (s : MutBor S)
    (r : Result (Unit {0}) WriteFault) (es : List Event) (t : MutBor S) : Type 0 where
  pub same_borrow : t.ghost_name ≡ s.ghost_name
  pub writes : Writes events failures s.now r es t.now
  pub limited : KeepsLimit events limit refusals s.now r es t.now

-- Where the formatter is flush (it indents nothing), a success has written the text of the events and left its options as
-- they were. The text is the same whatever its width, fill, precision and other options are.
abbrev pub Displays : {W : Type 0} → (W → List ℕ → W → Type 0) → Formatter W → Result (Unit {0}) WriteFault → List Event → Formatter W →
    Type 0
Displays took f r es g = IsFlush f → IsOk r → HasWrittenStyled took f (text_of es) g
