use Rattle.icu_ranges.proofs.Heavier.{SameSoFar}
use Rattle.icu_ranges.proofs.order.are_more.Given as goal

abbrev pub invariant-loop-index : goal.invariant-loop-index
invariant-loop-index l = SameSoFar l.digits l.others l.index
