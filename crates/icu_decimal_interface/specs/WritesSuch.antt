-- What a call does that writes the text of one of several values to a sink.
use Rattle.std.specs.Prelude.{◌≡◌, ℕ, List, Option, Result, Ok, Err}
use Rattle.writeable.specs.Events.{Event}
use Rattle.writeable.specs.Sink.{KeepsLimit, WritesAll, WritesBeginning}
use Rattle.icu_decimal.specs.declared.error.FormatError.{FormatError}
use Rattle.icu_decimal.specs.declared.error.FormatError.TheVariants.{Overflow, OutOfMemory, Sink}

-- The call is handed the sink s and leaves t. On success the text of one such value is written. After `Sink` the sink holds
-- a beginning of the text of one, and counts one more failure. After the other errors the sink is unchanged.
abbrev pub WritesSuch : {S N T : Type 0} → (S → List Event) → (S → ℕ) → S → Result T FormatError → (N → Type 0) → (N → List Event) →
    S → Type 0
WritesSuch {S} {N} {T} events failures s (Ok x) Such text t = (n : N) × Such n × WritesAll events failures s (text n) t
WritesSuch {S} {N} {T} events failures s (Err Overflow) Such text t = t ≡ s
WritesSuch {S} {N} {T} events failures s (Err OutOfMemory) Such text t = t ≡ s
WritesSuch {S} {N} {T} events failures s (Err Sink) Such text t = (n : N) × Such n × WritesBeginning events failures s (text n) t

-- Such a call keeps the limit of the sink. After `Sink` the sink failed for another reason than its limit, and counts
-- that; or it is full and some of the text is left.
abbrev pub KeepsLimitSuch : {S N T : Type 0} → (S → List Event) → (S → Option ℕ) → (S → ℕ) → S → Result T FormatError → (N → Type 0) →
    (N → List Event) → S → Type 0
KeepsLimitSuch {S} {N} {T} events limit refusals s (Ok x) Such text t = (n : N) × Such n × KeepsLimit events limit refusals s (Ok tt) (text n) t
KeepsLimitSuch {S} {N} {T} events limit refusals s (Err Overflow) Such text t = t ≡ s
KeepsLimitSuch {S} {N} {T} events limit refusals s (Err OutOfMemory) Such text t = t ≡ s
KeepsLimitSuch {S} {N} {T} events limit refusals s (Err Sink) Such text t = (n : N) × Such n × KeepsLimit events limit refusals s (Err (record {})) (text n) t
