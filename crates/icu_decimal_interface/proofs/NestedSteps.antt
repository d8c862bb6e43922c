-- A second number that is shown inside the first.
use Rattle.std.proofs.Common.{List, Result, Ok, Err}
use Rattle.writeable.specs.Events.{Event}
use Rattle.writeable.specs.declared.sink.WriteFault.{WriteFault}
use Rattle.icu_plurals.specs.Operands.{Operands}
use Rattle.icu_decimal_interface.specs.Shown.{Shown, operands_shown}
use Rattle.icu_decimal_interface.specs.Nested.{BothSuch, pair_events}
use Rattle.icu_decimal_interface.specs.UsesShown.{WroteSuch}
use Rattle.icu_decimal.specs.declared.error.FormatError.{FormatError}
use Rattle.icu_decimal.specs.declared.error.FormatError.TheVariants.{Overflow, OutOfMemory, Sink}

-- what the second wrote with the first is what both are to write
pub wrote_pair : {K T : Type 0} (wrote : K → Result (Unit {0}) WriteFault → List Event → K → Type 0) (k l : K) (r : Result T FormatError)
    (First Second : Shown → Type 0) (framed : Operands → List Event → Operands → List Event → List Event) (n : Shown) → First n
    → WroteSuch wrote k r Second (λ (m : Shown). framed (operands_shown n) n.events (operands_shown m) m.events) l
    → WroteSuch wrote k r (BothSuch First Second) (pair_events framed) l
wrote_pair wrote k l (Ok x) First Second framed n first (m, second, w) = (record { first = n; second = m }, (first, second), w)
wrote_pair wrote k l (Err Overflow) First Second framed n first same = same
wrote_pair wrote k l (Err OutOfMemory) First Second framed n first same = same
wrote_pair wrote k l (Err Sink) First Second framed n first (m, second, w) = (record { first = n; second = m }, (first, second), w)
