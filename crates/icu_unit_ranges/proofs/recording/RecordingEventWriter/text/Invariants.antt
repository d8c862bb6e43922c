use Rattle.std.proofs.Common.{◌≡◌, ◌++◌}
use Rattle.std.specs.Prelude.{map}
use Rattle.writeable.specs.Events.Event.{Char}
use Rattle.icu_unit_ranges.specs.Recordings.{kept_events}
use Rattle.icu_unit_ranges.proofs.recording.RecordingEventWriter.text.Given as goal

-- the characters so far are kept
abbrev pub invariant-loop-character : goal.invariant-loop-character
invariant-loop-character l = kept_events l.self.kept.items ≡ kept_events l.initial.self.kept.items ++ map Char l.yielded
