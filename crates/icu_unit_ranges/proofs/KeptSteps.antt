-- Events that are kept, one by one.
use Rattle.std.proofs.Common.{◌≡◌, ℕ, ◌+◌, ◌<◌, List, ◌∷◌, length, get_or, drop, add-one, drop-cons}
use Rattle.icu_unit_ranges.specs.declared.recording.Recorded.{Recorded}
use Rattle.icu_unit_ranges.specs.Recordings.{kept_event, kept_events}

-- the events that are left are the next one and those behind it
pub kept_from : (kept : List Recorded) (i : ℕ) (other : Recorded) → i < length kept →
    kept_events (drop i kept) ≡ kept_event (get_or kept i other) ∷ kept_events (drop (i + 1) kept)
kept_from kept i other h = rw (add-one, drop-cons kept i other)
