use Rattle.std.proofs.Common.{drop, Result}
use Rattle.writeable.specs.declared.sink.WriteFault.{WriteFault}
use Rattle.writeable.specs.Events.{digit_events}
use Rattle.writeable.proofs.event_writer.EventWriter.digits.Given as goal

-- whoever writes the digits that are left has written all
abbrev pub invariant-loop-digit : goal.invariant-loop-digit
invariant-loop-digit g l =
    (r : Result (Unit {0}) WriteFault) (end : _) →
    g.Self.EventWriter.wrote l.self r (digit_events l.characters (drop l.digit-index l.digits)) end →
    g.Self.EventWriter.wrote l.fn.self r (digit_events l.characters l.digits) end
