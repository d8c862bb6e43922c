use Rattle.std.proofs.Common.{◌≡◌, ◌⊎◌, ◌<◌, [], All, length, Result}
use Rattle.writeable.specs.declared.sink.WriteFault.{WriteFault}
use Rattle.writeable.specs.Groups.{cut, joined_after, group_events, separator_events, grouped_events}
use Rattle.writeable.specs.Counted.{IsDue}
use Rattle.writeable.proofs.event_writer.EventWriter.groups.Given as goal

-- a group begins where nothing is left or whole groups are; whoever writes the groups that are left has written all
abbrev pub invariant-groups : goal.invariant-groups
invariant-groups g l = record {
  due : (l.rest ≡ []) ⊎ IsDue l.primary l.secondary (length l.rest);
  below_ten : All (λ d. d < 10) l.rest;
  rest_ends : (r : Result (Unit {0}) WriteFault) (end : _) →
      g.Self.EventWriter.wrote l.self r (joined_after (separator_events l.grouping) (group_events l.characters (cut l.primary l.secondary l.rest))) end →
      g.Self.EventWriter.wrote l.fn.self r (grouped_events l.grouping l.characters l.fn.digits) end;
}

abbrev pub decreases-groups : goal.decreases-groups
decreases-groups g l = length l.rest
