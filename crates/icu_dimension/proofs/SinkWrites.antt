-- What a call leaves in a sink that it lends to a writer: what the writer wrote is written to the sink.
use Rattle.std.proofs.Common.{◌≡◌, ℕ, List, Option, Result, Ok, Err, ap, sym, subst}
use Rattle.std.specs.Borrow.{MutBor}
use Rattle.writeable.specs.Events.{Event}
use Rattle.writeable.specs.Sink.{LentWrites}
use Rattle.icu_decimal.specs.declared.error.FormatError.{FormatError}
use Rattle.icu_decimal.specs.declared.error.FormatError.TheVariants.{Overflow, OutOfMemory, Sink}
use Rattle.icu_decimal_interface.specs.UsesShown.{WroteSuch}
use Rattle.icu_decimal_interface.specs.WritesSuch.{KeepsLimitSuch, WritesSuch}

writes_by : {K S N T : Type 0} (events : S → List Event) (failures : S → ℕ) (limit : S → Option ℕ) (refusals : S → ℕ) (sink : K → MutBor S)
    (k l : K) (r : Result T FormatError) (Such : N → Type 0) (text : N → List Event)
    → WroteSuch (λ (a : K) q es (b : K). LentWrites events failures limit refusals (sink a) q es (sink b)) k r Such text l
    → WritesSuch events failures (sink k).now r Such text (sink l).now
writes_by events failures limit refusals sink k l (Ok x) Such text (n, such, w) = (n, such, w.writes)
writes_by events failures limit refusals sink k l (Err Overflow) Such text same = ap (λ a. (sink a).now) same
writes_by events failures limit refusals sink k l (Err OutOfMemory) Such text same = ap (λ a. (sink a).now) same
writes_by events failures limit refusals sink k l (Err Sink) Such text (n, such, w) = (n, such, w.writes)

keeps_limit_by : {K S N T : Type 0} (events : S → List Event) (failures : S → ℕ) (limit : S → Option ℕ) (refusals : S → ℕ) (sink : K → MutBor S)
    (k l : K) (r : Result T FormatError) (Such : N → Type 0) (text : N → List Event)
    → WroteSuch (λ (a : K) q es (b : K). LentWrites events failures limit refusals (sink a) q es (sink b)) k r Such text l
    → KeepsLimitSuch events limit refusals (sink k).now r Such text (sink l).now
keeps_limit_by events failures limit refusals sink k l (Ok x) Such text (n, such, w) = (n, such, w.limited)
keeps_limit_by events failures limit refusals sink k l (Err Overflow) Such text same = ap (λ a. (sink a).now) same
keeps_limit_by events failures limit refusals sink k l (Err OutOfMemory) Such text same = ap (λ a. (sink a).now) same
keeps_limit_by events failures limit refusals sink k l (Err Sink) Such text (n, such, w) = (n, such, w.limited)

-- the sink has what was written, or a beginning
pub sink_writes : {K S N T : Type 0} (events : S → List Event) (failures : S → ℕ) (limit : S → Option ℕ) (refusals : S → ℕ)
    (sink : K → MutBor S) (k l : K) (t : S) (r : Result T FormatError) (Such : N → Type 0) (text : N → List Event) → t ≡ (sink l).now
    → WroteSuch (λ (a : K) q es (b : K). LentWrites events failures limit refusals (sink a) q es (sink b)) k r Such text l
    → WritesSuch events failures (sink k).now r Such text t
sink_writes {K} {S} events failures limit refusals sink k l t r Such text same h =
    subst (λ (b : S). WritesSuch events failures (sink k).now r Such text b) (sym same)
    (writes_by events failures limit refusals sink k l r Such text h)

-- and it keeps its limit
pub sink_keeps_limit : {K S N T : Type 0} (events : S → List Event) (failures : S → ℕ) (limit : S → Option ℕ) (refusals : S → ℕ)
    (sink : K → MutBor S) (k l : K) (t : S) (r : Result T FormatError) (Such : N → Type 0) (text : N → List Event) → t ≡ (sink l).now
    → WroteSuch (λ (a : K) q es (b : K). LentWrites events failures limit refusals (sink a) q es (sink b)) k r Such text l
    → KeepsLimitSuch events limit refusals (sink k).now r Such text t
sink_keeps_limit {K} {S} events failures limit refusals sink k l t r Such text same h =
    subst (λ (b : S). KeepsLimitSuch events limit refusals (sink k).now r Such text b) (sym same)
    (keeps_limit_by events failures limit refusals sink k l r Such text h)
