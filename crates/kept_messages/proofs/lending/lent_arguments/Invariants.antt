use Rattle.std.proofs.Common.{◌≡◌, map, take}
use Rattle.kept_messages.specs.Arguments.{given_data, lent_data}
use Rattle.kept_messages.proofs.lending.lent_arguments.Given as goal

-- what has been lent so far
abbrev pub invariant-loop-given : goal.invariant-loop-given
invariant-loop-given l = map lent_data l.lent.items ≡ map given_data (take l.given-index l.given-items)
