-- What a call does that writes a text, for which it may take memory.
use Rattle.std.specs.Prelude.{◌≡◌, List, Result, Ok, Err}
use Rattle.writeable.specs.Events.{Event}
use Rattle.writeable.specs.declared.sink.WriteFault.{WriteFault}
use Rattle.icu_decimal.specs.declared.error.FormatError.{FormatError}
use Rattle.icu_decimal.specs.declared.error.FormatError.TheVariants.{Overflow, OutOfMemory, Sink}

-- The call is handed the writer k and leaves l. On success all events are written; after `Sink` their writing failed. If
-- memory runs out, the writer is unchanged. `Overflow` isn't reported.
abbrev pub WroteText : {K : Type 0} → (K → Result (Unit {0}) WriteFault → List Event → K → Type 0) → K → Result (Unit {0}) FormatError →
    List Event → K → Type 0
WroteText {K} wrote k (Ok x) es l = wrote k (Ok tt) es l
WroteText {K} wrote k (Err Overflow) es l = ⊥
WroteText {K} wrote k (Err OutOfMemory) es l = l ≡ k
WroteText {K} wrote k (Err Sink) es l = wrote k (Err (record {})) es l
