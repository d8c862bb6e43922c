-- What a call does that appends a range to a buffer.
use Rattle.std.specs.Prelude.{◌≡◌, ℕ, ◌⊎◌, List, ◌++◌, Result, Ok, Err}
use Rattle.writeable.specs.Events.{Event, text_of}
use Rattle.icu_decimal.specs.declared.error.FormatError.{FormatError}
use Rattle.number_ranges.specs.declared.error.RangeTextError.{RangeTextError}
use Rattle.number_ranges.specs.declared.error.RangeTextError.TheVariants.{OutOfMemory}

-- why nothing is written; `OutOfMemory` may be reported in any case
abbrev pub IsRefusal : {X : Type 0} → Result X RangeTextError → RangeTextError → Type 0
IsRefusal shown error = (error ≡ OutOfMemory) ⊎ (shown ≡ Err error)

-- a buffer grows by the text of the range
abbrev pub AppendsRange : Result (List Event) RangeTextError → List ℕ → List ℕ → Type 0
AppendsRange (Ok events) old new = new ≡ old ++ text_of events
AppendsRange (Err error) old new = ⊥

-- what is reported where a writer took nothing or not all
abbrev pub written_or : Result (Unit {0}) FormatError → Result (Unit {0}) RangeTextError
written_or (Ok x) = Ok x
written_or (Err error) = Err OutOfMemory
