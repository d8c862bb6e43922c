use Rattle.std.proofs.Common.{drop, Result}
use Rattle.writeable.specs.declared.sink.WriteFault.{WriteFault}
use Rattle.icu_unit_ranges.specs.Recordings.{kept_events}
use Rattle.icu_unit_ranges.proofs.recording.write_all_kept.Given as goal

-- whoever writes the events that are left has written all
abbrev pub invariant-loop-event : goal.invariant-loop-event
invariant-loop-event g l =
    (r : Result (Unit {0}) WriteFault) (end : _) →
    g.K.EventWriter.wrote l.out r (kept_events (drop l.event-index l.kept)) end →
    g.K.EventWriter.wrote l.fn.out r (kept_events l.kept) end
