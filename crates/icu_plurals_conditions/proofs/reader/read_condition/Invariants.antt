use Rattle.std.proofs.Common.{length}
use Rattle.icu_plurals_conditions.specs.Drafts.{drafted}
use Rattle.icu_plurals_conditions.proofs.Steps.{Reads}
use Rattle.icu_plurals_conditions.proofs.reader.read_condition.Given as goal

-- the draft and what is left make the condition
abbrev pub invariant-loop-found : goal.invariant-loop-found
invariant-loop-found l = Reads l.fn.text l.rest l.progress (drafted l.draft)

abbrev pub decreases-loop-found : goal.decreases-loop-found
decreases-loop-found l = length l.rest
