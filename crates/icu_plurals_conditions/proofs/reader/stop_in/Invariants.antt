use Rattle.std.proofs.Common.{length}
use Rattle.icu_plurals_conditions.proofs.Steps.{Looks}
use Rattle.icu_plurals_conditions.proofs.reader.stop_in.Given as goal

-- what is left has the fault of the text
abbrev pub invariant-loop-found : goal.invariant-loop-found
invariant-loop-found l = Looks l.fn.text l.end l.at l.rest l.progress

abbrev pub decreases-loop-found : goal.decreases-loop-found
decreases-loop-found l = length l.rest
