-- What a mode shows for a single text: its events, or why there are none.
use Rattle.std.specs.Prelude.{
  ◌≡◌,
  ℕ,
  ◌<◌,
  ◌≤◌,
  ◌⊎◌,
  List,
  ◌++◌,
  length,
  nat_le,
  Option,
  Some,
  None,
  Result,
  Ok,
  Err,
  IsOk,
  if◌then◌else◌,
  pos,
}
use Rattle.writeable.specs.Events.{Event, text_of}
use Rattle.writeable.specs.declared.sink.WriteFault.{WriteFault}
use Rattle.fixed_decimal.specs.declared.signs.Sign.{Sign}
use Rattle.fixed_decimal.specs.Reading.{reading}
use Rattle.fixed_decimal.specs.Size.{size, ten_to}
use Rattle.fixed_decimal.specs.Unsigned.{Unsigned}
use Rattle.icu_decimal.specs.CompactFormat.{CompactFormat}
use Rattle.icu_decimal.specs.Decimal.{decimal_events}
use Rattle.decimal_lines.specs.LineResults.{is_within_limits}
use Rattle.decimal_lines.specs.Compact.{events_of_nearest}
use Rattle.decimal_lines.specs.Computed.{nearest_number}
use Rattle.decimal_lines.specs.Filled.{IsFilled}
use Rattle.decimal_lines.specs.declared.single_text.TextError.{TextError}
use Rattle.decimal_lines.specs.declared.single_text.TextError.TheVariants.{NotDecimal, TooManyDigits, Overflow, OutOfMemory}
use Rattle.decimal_lines.specs.declared.mode.Mode.{Mode}
use Rattle.decimal_lines.specs.declared.mode.Mode.TheVariants.{Plain, Compact}

-- the number that is read, if it is within the limits, or why there is none
abbrev pub within_or : Option (Sign × Unsigned) → Result (Sign × Unsigned) TextError
within_or None = Err NotDecimal
within_or (Some (sign, d)) = if is_within_limits d then Ok (sign, d) else Err TooManyDigits

-- the decimal that a text reads as
unfoldable pub decimal_read : List ℕ → Result (Sign × Unsigned) TextError
decimal_read text = within_or (reading text)

-- the events of the compact number nearest to d, or `Overflow` if it is ten to the power 32768 or more
unfoldable pub compact_events : CompactFormat → Sign → Unsigned → Result (List Event) TextError
compact_events format sign d =
    if nat_le (ten_to (pos 32768)) (nearest_number format.table (size d)) then Err Overflow
    else Ok (events_of_nearest format sign d (nearest_number format.table (size d)))

-- what a mode shows for a decimal
abbrev pub mode_events : Mode → Sign → Unsigned → Result (List Event) TextError
mode_events (Plain format) sign d = Ok (decimal_events format sign d)
mode_events (Compact format) sign d = compact_events format sign d

-- what a mode shows for what was read
abbrev pub read_events : Mode → Result (Sign × Unsigned) TextError → Result (List Event) TextError
read_events mode (Ok (sign, d)) = mode_events mode sign d
read_events mode (Err error) = Err error

-- what a mode shows for a text
unfoldable pub events_of : Mode → List ℕ → Result (List Event) TextError
events_of mode text = read_events mode (decimal_read text)

-- why nothing is shown; `OutOfMemory` may be reported in any case
abbrev pub IsRefusal : {X : Type 0} → Result X TextError → TextError → Type 0
IsRefusal shown error = (error ≡ OutOfMemory) ⊎ (shown ≡ Err error)

-- a buffer grows by the text of what is shown
abbrev pub AppendsEvents : Result (List Event) TextError → List ℕ → List ℕ → Type 0
AppendsEvents (Ok events) old new = new ≡ old ++ text_of events
AppendsEvents (Err error) old new = ⊥

-- What a call does that is to write what is shown: the call is handed the writer k and leaves l. On success all its events are written.
-- After an error nothing is shown, or memory ran out; the writer is unchanged, unless it failed while those events were written.
abbrev pub WroteEvents : {K T : Type 0} → (K → Result (Unit {0}) WriteFault → List Event → K → Type 0) → K → Result T TextError →
    Result (List Event) TextError → K → Type 0
WroteEvents {K} {T} wrote k (Ok x) shown l = (events : List Event) × (shown ≡ Ok events) × wrote k (Ok tt) events l
WroteEvents {K} {T} wrote k (Err error) shown l = IsRefusal shown error × ((l ≡ k) ⊎ ((error ≡ OutOfMemory)
    × ((events : List Event) × (IsOk shown → shown ≡ Ok events) × wrote k (Err (record {})) events l)))

-- an output holds a text of n bytes at its front if it fits, and else what it held before
pub record HoldsIfRoom (old new text : List ℕ) (n : ℕ) : Type 0 where
  pub count : n ≡ length text
  pub fits : n ≤ length old → IsFilled old new text n
  pub too_long : length old < n → new ≡ old

-- the same of the text of what is shown
abbrev pub HoldsEvents : Result (List Event) TextError → List ℕ → List ℕ → ℕ → Type 0
HoldsEvents (Ok events) old new n = HoldsIfRoom old new (text_of events) n
HoldsEvents (Err error) old new n = ⊥
