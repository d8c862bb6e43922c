-- Events that are kept, to be written later.
use Rattle.std.specs.Prelude.{◌≡◌, List, [], ◌++◌, map, OnOk, Result, Ok, Err}
use Rattle.std.proofs.Common.{sym, ap, ◌∙◌, append_assoc, append-nil}
use Rattle.writeable.specs.Events.{Event}
use Rattle.writeable.specs.Events.Event.{Char, Open, Close}
use Rattle.writeable.specs.declared.sink.WriteFault.{WriteFault}
use Rattle.icu_unit_ranges.specs.declared.recording.Recorded.{Recorded}
use Rattle.icu_unit_ranges.specs.declared.recording.Recorded.TheVariants.{Character as KeptCharacter, Open as KeptOpen, Close as KeptClose}

-- the event that is kept
abbrev pub kept_event : Recorded → Event
kept_event (KeptCharacter c) = Char c
kept_event (KeptOpen part) = Open part.category.now part.value.now
kept_event KeptClose = Close

-- all events that are kept
abbrev pub kept_events : List Recorded → List Event
kept_events kept = map kept_event kept

-- nothing is kept besides
pub kept_nothing : (a : List Event) → a ≡ a ++ []
kept_nothing a = sym (append-nil a)

-- events are kept behind others
pub kept_then : (a b c : List Event) (r : Result (Unit {0}) WriteFault) (es fs : List Event) → b ≡ a ++ es → OnOk r (c ≡ b ++ fs) →
    OnOk r (c ≡ a ++ (es ++ fs))
kept_then a b c (Ok x) es fs h k = k ∙ ap (λ l. l ++ fs) h ∙ append_assoc a es fs
kept_then a b c (Err e) es fs h k = tt
