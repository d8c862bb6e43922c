-- What a call does that shows a number to what its caller brings, and what one does that writes it to any writer.
use Rattle.std.specs.Prelude.{◌≡◌, ◌≢◌, List, Result, Ok, Err}
use Rattle.writeable.specs.Events.{Event}
use Rattle.writeable.specs.declared.sink.WriteFault.{WriteFault}
use Rattle.icu_plurals.specs.Operands.{Operands}
use Rattle.icu_decimal_interface.specs.Shown.{Shown, operands_shown}
use Rattle.icu_decimal.specs.declared.error.FormatError.{FormatError}
use Rattle.icu_decimal.specs.declared.error.FormatError.TheVariants.{Overflow, OutOfMemory, Sink}

-- The call is handed the caller's value v and leaves w. On success one such number was shown, and this is what was done
-- with it. After an error nothing was done, and the error isn't that of a sink.
abbrev pub UsesShown : {V O : Type 0} → (Shown → Type 0) → (V → Operands → List Event → O → V → Type 0) → V → Result O FormatError → V →
    Type 0
UsesShown {V} {O} Such used v (Ok o) w = (n : Shown) × Such n × used v (operands_shown n) n.events o w
UsesShown {V} {O} Such used v (Err e) w = (w ≡ v) × (e ≢ Sink)

-- The call is handed the writer k and leaves l. On success the events of one such value are written; after `Sink` their
-- writing failed. After the other errors the writer is unchanged.
abbrev pub WroteSuch : {K N T : Type 0} → (K → Result (Unit {0}) WriteFault → List Event → K → Type 0) → K → Result T FormatError →
    (N → Type 0) → (N → List Event) → K → Type 0
WroteSuch {K} {N} {T} wrote k (Ok x) Such text l = (n : N) × Such n × wrote k (Ok tt) (text n) l
WroteSuch {K} {N} {T} wrote k (Err Overflow) Such text l = l ≡ k
WroteSuch {K} {N} {T} wrote k (Err OutOfMemory) Such text l = l ≡ k
WroteSuch {K} {N} {T} wrote k (Err Sink) Such text l = (n : N) × Such n × wrote k (Err (record {})) (text n) l
