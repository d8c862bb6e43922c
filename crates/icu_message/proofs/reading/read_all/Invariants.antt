use Rattle.icu_message.specs.Stepping.{IsNested}
use Rattle.icu_message.proofs.Left.{Left}
use Rattle.icu_message.proofs.reading.read_all.Given as goal

-- what is left makes the message, or has its fault
abbrev pub invariant-loop-at : goal.invariant-loop-at
invariant-loop-at l = IsNested l.state × Left l.text l.at l.state l.draft
